use Rattle.std.proofs.Common.{◌≡◌, ◌∙◌, List, Option, Err, ap, subst, sym}
use Rattle.std.specs.Prelude.{IfOk}
use Rattle.arimaa_board.specs.declared.position.Step.{Step}
use Rattle.arimaa_board.specs.declared.turn.NotedStep.{NotedStep}
use Rattle.arimaa_model.specs.Faults.{apply_result}
use Rattle.arimaa_model.specs.Marks.{marks_of}
use Rattle.arimaa_match.proofs.Games.{turn_made, turn_refused}
use Rattle.arimaa_match.proofs.game.make.Goals as goal

pub returns-in-Err-clause-made : goal.returns-in-Err-clause-made
returns-in-Err-clause-made c =
    turn_refused c.args.game.now.history c.now-present.result c.args.noted.now
    c.now-present.ensures.present
    (sym c.marks_fit.ensures.value ∙ c.if-not-marks_fit.false) c.in-Err.field-0
    (subst (λ (steps : List Step). apply_result c.now-present.result steps ≡ Err c.in-Err.field-0)
    c.turn.ensures c.in-Err.ensures.refused)

pub returns-in-Ok-clause-made : goal.returns-in-Ok-clause-made
returns-in-Ok-clause-made c =
    subst (λ (made : Option (List NotedStep)). IfOk c.play.result (λ m. m ≡ made))
    (sym (turn_made c.args.game.now.history c.now-present.result c.args.noted.now
    c.now-present.ensures.present
    (sym c.marks_fit.ensures.value ∙ c.if-not-marks_fit.false) c.in-Ok.marked
    (c.in-Ok.ensures.turn ∙ c.turn.ensures)
    (c.in-Ok.ensures.marks ∙ ap (marks_of c.now-present.result.board) c.turn.ensures)))
    c.play.ensures.made
