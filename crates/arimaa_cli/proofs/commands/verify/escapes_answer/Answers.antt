use Rattle.std.proofs.Common.{◌∙◌, Err, ap, arith, subst}
use Rattle.arimaa_model.specs.Game.{barred_by}
use Rattle.arimaa_refute.specs.Checks.{IsVerified}
use Rattle.arimaa_cli.specs.Commands.Verify.IsEscapesAnswer.{bad_line, verified}
use Rattle.arimaa_cli.specs.Commands.Verify.{IsEscapesAnswer, answer_of}
use Rattle.arimaa_cli.proofs.CheckAnswers.{line_within, told_so}
use Rattle.arimaa_cli.proofs.commands.verify.escapes_answer.Goals as goal

pub overflow_add-line : goal.overflow_add-line
overflow_add-line c =
    let fault = c.in-Err-Text.ensures.fault c.in-Err-Text.bad (ap (λ x. Err x) c.in-Err-Text.field-0-is) in
    let within = line_within c.args.text.now fault.before fault.line fault.after c.in-Err-Text.bad fault.split fault.counted in
    omega arith

pub returns-in_ok-bad_line_text-in-Err-Text : goal.returns-in_ok-bad_line_text-in-Err-Text
returns-in_ok-bad_line_text-in-Err-Text c = λ p here.
    let fault = c.in-Err-Text.ensures.fault c.in-Err-Text.bad (ap (λ x. Err x) c.in-Err-Text.field-0-is) in
    rw (c.new.ensures, c.in_ok-bad_line_text-in-Err-Text.ensures) (bad_line c.in-Err-Text.bad fault)

pub returns-in_ok-region-in-Ok : goal.returns-in_ok-region-in-Ok
returns-in_ok-region-in-Ok c = λ p here.
    let asked = c.args.asked.now in
    let room = c.in_ok-region-in-Ok.ensures.room ∙ c.room_of.ensures.value in
    let right = subst (λ r. IsVerified asked.attacker (barred_by c.args.game.now.history) asked.depth r c.in-Ok.escapes p c.verify-found.result) room (c.verify-found.ensures.verified p here.last) in
    told_so (IsEscapesAnswer asked c.args.game.now.history p c.args.line c.args.text.now) (answer_of c.verify-found.result)
    (verified c.in-Ok.escapes c.in-Ok.ensures.entries c.verify-found.result right)
    c.answer_of.result c.answer_of.ensures
