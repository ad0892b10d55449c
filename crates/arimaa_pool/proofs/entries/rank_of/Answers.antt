use Rattle.std.proofs.Common.{◌≡◌, ◌<◌, ◌≤◌, true, false, inl, inr, refl, sym, ◌∙◌, ap, arith}
use Rattle.arimaa_model.specs.Ranks.{rank_within}
use Rattle.arimaa_model.specs.Wins.{wins}
use Rattle.arimaa_model.proofs.Lemmas.Ranking.{rank-from}
use Rattle.arimaa_forced.specs.Needs.{IsAsked}
use Rattle.arimaa_pool.specs.Terms.{Terms}
use Rattle.arimaa_pool.proofs.HandedOn.{stop_on}
use Rattle.arimaa_pool.proofs.RankBounds.{rank-least, asked_itself}
use Rattle.arimaa_pool.proofs.entries.rank_of.Goals as goal

pub returns-in_err-ask-clause-stop : goal.returns-in_err-ask-clause-stop
returns-in_err-ask-clause-stop c =
    let t : Terms = c.args.asker.now in
    let d = c.loop-depth.depth in
    let less : d < c.args.n = c.loop-depth-test.true in
    let bound = rank-least t.attacker t.barred c.args.q.now c.args.n d (omega arith) c.loop-depth.invariant.lost in
    stop_on c.ask.result c.from_residual.result c.in_err-ask.field-0.0 c.loop-depth.asker t
    (λ u q j. (q ≡ c.args.q.now) × (j ≡ d))
    (IsAsked t.attacker t.barred c.args.q.now (rank_within t.attacker t.barred c.args.n c.args.q.now))
    c.loop-depth.invariant.same c.in_err-ask.was c.from_residual.ensures.1 c.ask.ensures.stop
    (λ q j is. asked_itself t.attacker t.barred c.args.q.now q j d _ is.0 is.1 bound)

pub returns-then-branch-clause-rank : goal.returns-then-branch-clause-rank
returns-then-branch-clause-rank c =
    let t : Terms = c.args.asker.now in
    let d = c.loop-depth.depth in
    let less : d < c.args.n = c.loop-depth-test.true in
    let won : wins t.attacker t.barred d c.args.q.now ≡ true = sym (ap (λ (u : Terms). wins u.attacker u.barred d c.args.q.now) c.loop-depth.invariant.same) ∙ (sym c.in_ok-ask.ensures.verdict ∙ c.if-branch.true) in
    rank-from t.attacker t.barred c.args.n d c.args.q.now (omega arith) c.loop-depth.invariant.lost (inr won)

pub returns-clause-rank : goal.returns-clause-rank
returns-clause-rank c =
    let t : Terms = c.args.asker.now in
    let past : c.args.n ≤ c.loop-depth.depth = c.loop-depth-test.false in
    rank-from t.attacker t.barred c.args.n c.args.n c.args.q.now (omega arith) (λ j small. c.loop-depth.invariant.lost j (omega arith)) (inl refl)
