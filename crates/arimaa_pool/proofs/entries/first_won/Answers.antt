use Rattle.std.proofs.Common.{◌≡◌, true, false, sym, ◌∙◌, ap, subst}
use Rattle.arimaa_model.specs.Members.{Stands}
use Rattle.arimaa_model.specs.Results.{next}
use Rattle.arimaa_model.specs.Wins.{wins}
use Rattle.arimaa_model.proofs.Lemmas.Positions.{In-stands}
use Rattle.arimaa_forced.specs.Search.{looked_at}
use Rattle.arimaa_pool.specs.Terms.{Terms}
use Rattle.arimaa_pool.proofs.HandedOn.{stop_on}
use Rattle.arimaa_pool.proofs.Firsts.{first_left, Left, left-more, left-here, left-looked, own-ends}
use Rattle.arimaa_pool.proofs.entries.first_won.Goals as goal

pub returns-in_err-ask-clause-stop : goal.returns-in_err-ask-clause-stop
returns-in_err-ask-clause-stop c =
    let t : Terms = c.args.asker.now in
    let here = first_left c.args.list.now.segments (next t.barred c.args.q.now) c.loop-place.place c.get-reply.result c.requires.list c.get-reply.ensures in
    let l = subst (Left t.attacker t.barred c.args.depth c.args.q.now) here c.loop-place.invariant.left in
    let there = In-stands (looked_at t.attacker t.barred c.args.depth c.args.q.now) c.get-reply.result (left-looked t.attacker t.barred c.args.depth c.args.q.now c.get-reply.result _ l) in
    stop_on c.ask.result c.from_residual.result c.in_err-ask.field-0.0 c.loop-place.asker t
    (λ u q j. (q ≡ c.get-reply.result) × (j ≡ c.args.depth))
    (λ x j. (j ≡ c.args.depth) × Stands (looked_at t.attacker t.barred c.args.depth c.args.q.now) x)
    c.loop-place.invariant.same c.in_err-ask.was c.from_residual.ensures.1 c.ask.ensures.stop
    (λ x j is. (is.1, subst (Stands (looked_at t.attacker t.barred c.args.depth c.args.q.now)) (sym is.0) there))

pub returns-then-branch-clause-first : goal.returns-then-branch-clause-first
returns-then-branch-clause-first c =
    let t : Terms = c.args.asker.now in
    let here = first_left c.args.list.now.segments (next t.barred c.args.q.now) c.loop-place.place c.get-reply.result c.requires.list c.get-reply.ensures in
    let l = subst (Left t.attacker t.barred c.args.depth c.args.q.now) here c.loop-place.invariant.left in
    let won : wins t.attacker t.barred c.args.depth c.get-reply.result ≡ true = sym (ap (λ (u : Terms). wins u.attacker u.barred c.args.depth c.get-reply.result) c.loop-place.invariant.same) ∙ (sym c.in_ok-ask.ensures.verdict ∙ c.if-branch.true) in
    left-here t.attacker t.barred c.args.depth c.args.q.now c.get-reply.result _ l (own-ends t.attacker t.barred c.args.depth c.args.q.now c.get-reply.result true c.requires.own won)

pub loop-place-preserved : goal.loop-place-preserved
loop-place-preserved c =
    let t : Terms = c.args.asker.now in
    let here = first_left c.args.list.now.segments (next t.barred c.args.q.now) c.loop-place.place c.get-reply.result c.requires.list c.get-reply.ensures in
    let l = subst (Left t.attacker t.barred c.args.depth c.args.q.now) here c.loop-place.invariant.left in
    let lost : wins t.attacker t.barred c.args.depth c.get-reply.result ≡ false = sym (ap (λ (u : Terms). wins u.attacker u.barred c.args.depth c.get-reply.result) c.loop-place.invariant.same) ∙ (sym c.in_ok-ask.ensures.verdict ∙ c.if-branch.false) in
    record {
      same = c.ask.ensures.same ∙ c.loop-place.invariant.same;
      left = left-more t.attacker t.barred c.args.depth c.args.q.now c.get-reply.result _ l (own-ends t.attacker t.barred c.args.depth c.args.q.now c.get-reply.result false c.requires.own lost);
    }
