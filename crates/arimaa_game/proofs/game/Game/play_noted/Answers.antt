use Rattle.std.proofs.Common.{◌≡◌, ◌∙◌, ap, sym, subst, false, refl, Err, Some}
use Rattle.arimaa_board.specs.NotedTurns.{noted_marks, noted_turn}
use Rattle.arimaa_board.specs.declared.position.Position.{Position}
use Rattle.arimaa_model.specs.Marks.{marks_right}
use Rattle.arimaa_game.specs.Faults.{rule_of_answer}
use Rattle.arimaa_game.specs.Play.{play_outcome, unless_marked}
use Rattle.arimaa_game.proofs.Lemmas.Turns.{unmarked-rule}
use Rattle.arimaa_game.proofs.game.Game.play_noted.Goals as goal

pub returns-else-marks_fit-clause-first : goal.returns-else-marks_fit-clause-first
returns-else-marks_fit-clause-first c p now running =
    let same : Some c.now.result ≡ Some p = sym c.now.ensures.present ∙ now in
    let present : c.now.result ≡ p = cc in
    let here : marks_right c.now.result.board (noted_turn c.args.noted.now) (noted_marks c.args.noted.now) ≡ false = sym (c.marks_fit.ensures.required refl) ∙ c.if-marks_fit.false in
    let wrong = subst (λ (x : Position). marks_right x.board (noted_turn c.args.noted.now) (noted_marks c.args.noted.now) ≡ false) present here in
    let due : unless_marked false (play_outcome c.args.self.now (noted_turn c.args.noted.now)) ≡ Err c.fault_of_unmarked.result = rw c.turn-turn.ensures at c.fault_of_unmarked.ensures in
    unmarked-rule c.args.self.now p (noted_turn c.args.noted.now) (noted_marks c.args.noted.now) now running wrong ∙ ap rule_of_answer due
