use Rattle.std.proofs.Common.{◌≡◌, sym, false, arith}
use Rattle.std.specs.Prelude.{nat_le}
use Rattle.std.proofs.lemmas.Bool.Decides.{nat_tests}
use Rattle.arimaa_step.proofs.Lemmas.AnswerLaws.{ok_parts, moves_fit, ok_answer}
use Rattle.arimaa_step.proofs.state.TurnState.make.Goals as goal

pub ends_move-ends-requires : goal.ends_move-ends-requires
ends_move-ends-requires c = moves_fit c.args.self.now c.args.step.now (ok_parts c.args.self.now c.args.step.now c.requires).1

pub after_step-requires-clause-few : goal.after_step-requires-clause-few
after_step-requires-clause-few c =
    let few : nat_le 4 c.args.self.now.count ≡ false = (ok_parts c.args.self.now c.args.step.now c.requires).0 in
    grind (arith, nat_tests)

pub after_step-requires-clause-fits : goal.after_step-requires-clause-fits
after_step-requires-clause-fits c = moves_fit c.args.self.now c.args.step.now (ok_parts c.args.self.now c.args.step.now c.requires).1

pub returns-clause-done : goal.returns-clause-done
returns-clause-done c =
    let parts = ok_parts c.args.self.now c.args.step.now c.requires in
    rw (ok_answer c.args.self.now c.args.step.now parts.0 parts.1) (sym c.after_step.ensures)
