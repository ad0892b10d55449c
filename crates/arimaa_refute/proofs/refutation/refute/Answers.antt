use Rattle.std.proofs.Common.{◌≡◌, is_some, sym, ◌∙◌, ap, subst}
use Rattle.std.specs.Prelude.{IfOk}
use Rattle.arimaa_board.specs.declared.position.Position.{Position}
use Rattle.arimaa_model.specs.Game.{barred_by}
use Rattle.arimaa_model.proofs.Lemmas.Present.{present-some}
use Rattle.arimaa_strategy.proofs.Lemmas.CheckLaws.{some_same}
use Rattle.arimaa_refute.specs.Refutations.{Terms, IsRefuted}
use Rattle.arimaa_refute.proofs.RefutationLaws.{answer-same, refuted-done}
use Rattle.arimaa_refute.proofs.refutation.refute.Goals as goal

pub unwrap-p-requires : goal.unwrap-p-requires
unwrap-p-requires c = ap is_some c.last.ensures ∙ present-some c.args.history.now c.requires.history

pub returns-clause-answer : goal.returns-clause-answer
returns-clause-answer c = λ p now.
    let root : c.unwrap-p.result ≡ p = some_same (sym c.unwrap-p.ensures ∙ (c.last.ensures ∙ now)) in
    let t : Terms = c.new-asker.result in
    let F : Position → Type 0 = λ x. IfOk c.answer_of.result (IsRefuted t.attacker t.barred t.budget t.room x c.args.n) in
    answer-same c.answer_of.result t c.args.attacker (barred_by c.args.history.now) c.args.budget c.args.room p c.args.n
    (c.new-asker.ensures.attacker ∙ c.in_ok-table.ensures.attacker)
    (c.new-asker.ensures.barred ∙ (c.in_ok-table.ensures.barred ∙ c.barred.ensures.value))
    (c.new-asker.ensures.budget ∙ c.in_ok-worker.ensures.budget)
    (c.new-asker.ensures.room ∙ c.in_ok-worker.ensures.room)
    (subst F root c.answer_of.ensures)

pub returns-clause-complete : goal.returns-clause-complete
returns-clause-complete c = λ p now large wide. refuted-done c.args.attacker (barred_by c.args.history.now) c.args.budget c.args.room p c.args.n c.answer_of.result (returns-clause-answer c p now) large wide
