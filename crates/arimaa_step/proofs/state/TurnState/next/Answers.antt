use Rattle.std.proofs.Common.{◌≡◌, ◌∙◌, sym, ap, false, true, arith, Err}
use Rattle.std.specs.Prelude.{nat_le}
use Rattle.std.proofs.lemmas.Bool.Decides.{nat_tests}
use Rattle.arimaa_step.proofs.Lemmas.AnswerLaws.{fifth_answer, unfit_answer}
use Rattle.arimaa_step.proofs.state.TurnState.next.Goals as goal

pub returns-then-self-ge4 : goal.returns-then-self-ge4
returns-then-self-ge4 c =
    let late : nat_le 4 c.args.self.now.count ≡ true = grind (arith, nat_tests) in
    sym (fifth_answer c.args.self.now c.args.step.now late)

pub returns-then-not-can_step : goal.returns-then-not-can_step
returns-then-not-can_step c =
    let few : nat_le 4 c.args.self.now.count ≡ false = grind (arith, nat_tests) in
    ap Err c.broken_rule.ensures ∙ sym (unfit_answer c.args.self.now c.args.step.now few (sym c.can_step.ensures ∙ c.if-not-can_step.true))
