use Rattle.std.proofs.Common.{◌≡◌, ◌∙◌, sym, Some}
use Rattle.arimaa_model.specs.Game.{barred_by, present}
use Rattle.arimaa_strategy.specs.Findings.{checked_of}
use Rattle.arimaa_strategy.proofs.Lemmas.CheckLaws.{some_same, answer_is_checked, accepted_wins}
use Rattle.arimaa_strategy.proofs.checker.check.Goals as goal

pub returns-clause-checked : goal.returns-clause-checked
returns-clause-checked c = λ p now.
    let root : c.unwrap-root.result ≡ p = some_same (sym c.unwrap-root.ensures ∙ (c.last.ensures ∙ now)) in
    let is : c.answer.result ≡ checked_of c.args.region.now.room c.args.attacker (barred_by c.args.history.now) c.args.n c.args.strategy.now p =
    c.answer.ensures.answer ∙ λ i. checked_of c.args.region.now.room c.args.attacker (c.barred.ensures.value i) c.args.n c.args.strategy.now (root i) in
    answer_is_checked c.args.region.now.room c.args.attacker (barred_by c.args.history.now) c.args.n c.args.strategy.now p c.answer.result is

pub returns-clause-wins : goal.returns-clause-wins
returns-clause-wins c =
    let now : present c.args.history.now ≡ Some c.unwrap-root.result = sym c.last.ensures ∙ c.unwrap-root.ensures in
    let is : c.answer.result ≡ checked_of c.args.region.now.room c.args.attacker (barred_by c.args.history.now) c.args.n c.args.strategy.now c.unwrap-root.result =
    c.answer.ensures.answer ∙ λ i. checked_of c.args.region.now.room c.args.attacker (c.barred.ensures.value i) c.args.n c.args.strategy.now c.unwrap-root.result in
    let all = answer_is_checked c.args.region.now.room c.args.attacker (barred_by c.args.history.now) c.args.n c.args.strategy.now c.unwrap-root.result c.answer.result is in
    accepted_wins c.args.attacker c.args.history.now c.args.n c.args.strategy.now c.unwrap-root.result c.answer.result now all.accepted
