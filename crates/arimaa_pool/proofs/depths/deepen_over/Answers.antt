use Rattle.std.proofs.Common.{◌≡◌, ◌+◌, ◌<◌, arith}
use Rattle.arimaa_model.specs.Members.{Stands}
use Rattle.arimaa_model.specs.Ranks.{rank_within}
use Rattle.arimaa_forced.specs.Needs.{IsAsked}
use Rattle.arimaa_forced.specs.Search.{looked_at}
use Rattle.arimaa_pool.specs.Terms.{Terms}
use Rattle.arimaa_pool.proofs.HandedOn.{fail_on}
use Rattle.arimaa_pool.proofs.RankBounds.{rank-least, asked_place}
use Rattle.arimaa_pool.proofs.depths.deepen_over.Goals as goal

pub returns-in_err-ask_jobs-clause-failure : goal.returns-in_err-ask_jobs-clause-failure
returns-in_err-ask_jobs-clause-failure g c =
    let t : Terms = c.args.crew.now.terms in
    let d = c.loop-depth.depth in
    let less : d < c.args.n = c.loop-depth-test.true in
    let bound = rank-least t.attacker t.barred c.args.p.now c.args.n (d + 1) (omega arith) (λ j small. c.loop-depth.invariant.lost j (omega arith)) in
    fail_on c.ask_jobs.result c.from_residual.result c.in_err-ask_jobs.field-0.0 c.loop-depth.crew.terms t
    (λ u q j. (j ≡ d) × Stands (looked_at u.attacker u.barred d c.args.p.now) q)
    (IsAsked t.attacker t.barred c.args.p.now (rank_within t.attacker t.barred c.args.n c.args.p.now))
    c.loop-depth.invariant.terms c.in_err-ask_jobs.was c.from_residual.ensures.1 c.ask_jobs.ensures.failure
    (λ q j is. asked_place t.attacker t.barred c.args.p.now q j d _ c.requires.undecided is.0 (omega arith) is.1)
