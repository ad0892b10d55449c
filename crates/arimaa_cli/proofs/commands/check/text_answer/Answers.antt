use Rattle.std.proofs.Common.{◌∙◌, Err, Some, ap, arith, subst}
use Rattle.arimaa_model.specs.Game.{barred_by}
use Rattle.arimaa_strategy.specs.Checks.{IsChecked}
use Rattle.arimaa_cli.specs.Commands.Check.IsStrategyAnswer.{bad_line, checked}
use Rattle.arimaa_cli.specs.Commands.Check.{IsStrategyAnswer, answer_of}
use Rattle.arimaa_cli.proofs.CheckAnswers.{line_within, stands_at, told_so}
use Rattle.arimaa_cli.proofs.commands.check.text_answer.Goals as goal

pub overflow_add-line : goal.overflow_add-line
overflow_add-line c =
    let fault = c.in-Err-Text.ensures.fault c.in-Err-Text.bad (ap (λ x. Err x) c.in-Err-Text.field-0-is) in
    let within = line_within c.args.text.now fault.before fault.line fault.after c.in-Err-Text.bad fault.split fault.counted in
    omega arith

pub returns-in_ok-bad_line_text-in-Err-Text : goal.returns-in_ok-bad_line_text-in-Err-Text
returns-in_ok-bad_line_text-in-Err-Text c =
    let here = stands_at c.args.game.now c.requires.open_yet c.requires.some in
    let fault = c.in-Err-Text.ensures.fault c.in-Err-Text.bad (ap (λ x. Err x) c.in-Err-Text.field-0-is) in
    rw (c.new.ensures, c.in_ok-bad_line_text-in-Err-Text.ensures) (bad_line here.0 here.1 c.args.text.now c.in-Err-Text.bad fault)

pub returns-in_ok-region-in-Ok : goal.returns-in_ok-region-in-Ok
returns-in_ok-region-in-Ok c =
    let here = stands_at c.args.game.now c.requires.open_yet c.requires.some in
    let asked = c.args.asked.now in
    let room = c.in_ok-region-in-Ok.ensures.room ∙ c.room_of.ensures.value in
    let right = subst (λ r. IsChecked asked.attacker (barred_by c.args.game.now.history) asked.depth r c.in-Ok.strategy here.0 c.check-found.result) room (c.check-found.ensures.checked here.0 here.1.last) in
    told_so (IsStrategyAnswer asked c.args.game.now c.args.line (Some c.args.text.now)) (answer_of c.check-found.result)
    (checked here.0 here.1 c.args.text.now c.in-Ok.strategy c.in-Ok.ensures.entries c.check-found.result (record { right = right; wins = c.check-found.ensures.wins }))
    c.answer_of.result c.answer_of.ensures
