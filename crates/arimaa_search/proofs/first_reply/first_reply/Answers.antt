use Rattle.std.proofs.Common.{◌≡◌, Some, is_ok, ap, subst}
use Rattle.arimaa_board.specs.declared.position.Position.{Position}
use Rattle.arimaa_model.specs.Results.{result_of}
use Rattle.arimaa_results.specs.Ahead.{is_unbarred}
use Rattle.arimaa_search.proofs.FirstReplies.{first-next, none-next, brings, leads, same_ok, if_none}
use Rattle.arimaa_search.proofs.first_reply.first_reply.Goals as goal

pub returns-in_err-turn-clause-none : goal.returns-in_err-turn-clause-none
returns-in_err-turn-clause-none c = if_none c.from_residual.result (none-next c.args.barred.now c.args.p.now c.in_err-turn.ensures.some)

pub unwrap-requires : goal.unwrap-requires
unwrap-requires c =
    let b = brings (is_unbarred c.args.barred.now) c.args.p.now c.in_ok-turn.turn c.in_ok-turn.ensures.wanted in
    ap is_ok ((c.apply.ensures.turn b.reached).1 (leads c.args.p.now c.in_ok-turn.turn b.reached b.is))

pub returns-clause-first : goal.returns-clause-first
returns-clause-first c =
    let b = brings (is_unbarred c.args.barred.now) c.args.p.now c.in_ok-turn.turn c.in_ok-turn.ensures.wanted in
    let same = same_ok c.apply.result b.reached c.unwrap.result ((c.apply.ensures.turn b.reached).1 (leads c.args.p.now c.in_ok-turn.turn b.reached b.is)) c.unwrap.ensures in
    first-next c.args.barred.now c.args.p.now c.in_ok-turn.turn c.unwrap.result c.in_ok-turn.ensures.first (subst (λ (q : Position). result_of c.args.p.now c.in_ok-turn.turn ≡ Some q) same b.is)
