use Rattle.std.proofs.Common.{◌≡◌, ◌∙◌, subst}
use Rattle.std.specs.Prelude.{IfOk}
use Rattle.arimaa_model.specs.Ranks.{rank_within}
use Rattle.arimaa_forced.specs.Needs.{IsAsked, InNeed, deepening}
use Rattle.arimaa_pool.specs.Crews.{IsTaken}
use Rattle.arimaa_pool.specs.Depths.{IsFound}
use Rattle.arimaa_pool.specs.Terms.{Terms}
use Rattle.arimaa_pool.specs.Verdicts.{IsAnswer}
use Rattle.arimaa_pool.proofs.HandedOn.{wider_failure}
use Rattle.arimaa_pool.proofs.proof.answer_of.Goals as goal

pub returns-in-Err : goal.returns-in-Err
returns-in-Err g c =
    let t : Terms = c.args.crew.now.terms in
    c.verdict_on.ensures t c.args.p.now c.args.n
    (wider_failure t (IsAsked t.attacker t.barred c.args.p.now (rank_within t.attacker t.barred c.args.n c.args.p.now)) (InNeed t.attacker t.barred c.args.p.now c.args.n) c.in-Err.failure (λ q j asked. deepening q j asked) c.in-Err.ensures.failure)

pub returns-in-Some : goal.returns-in-Some
returns-in-Some g c =
    let t : Terms = c.args.crew.now.terms in
    let found = subst (IsFound t c.args.p.now c.args.n) c.in-Some.is c.in-Ok.ensures.found in
    let taken = subst (IsTaken c.deepen.new.crew c.take.new.self) c.unwrap.ensures c.take.ensures in
    let same : c.into_inner-asker.result ≡ t = c.into_inner-asker.ensures ∙ (taken.0 ∙ c.deepen.ensures.terms) in
    subst (λ (u : Terms). IfOk c.win.result (IsAnswer u c.args.p.now c.args.n)) same (c.win.ensures c.args.n found.0)
