use Rattle.std.proofs.Common.{◌∙◌, ap, refl}
use Rattle.std.proofs.lemmas.Result.{err_from_is_err_and}
use Rattle.arimaa_game.specs.Faults.{rule_of_answer}
use Rattle.arimaa_game.proofs.Lemmas.Turns.{first-rule, third-rule}
use Rattle.arimaa_game.proofs.game.Game.play.Goals as goal

pub returns-in_err-reached-clause-first : goal.returns-in_err-reached-clause-first
returns-in_err-reached-clause-first c p marks now running right =
    let e = err_from_is_err_and c.from_residual.result c.from_residual.ensures.1 in
    first-rule c.args.self.now p c.args.turn.now marks now running right ∙ (ap rule_of_answer c.in_err-reached.ensures.fault ∙ rw (e.1, e.2) refl)

pub returns-clause-first : goal.returns-clause-first
returns-clause-first c p marks now running right =
    first-rule c.args.self.now p c.args.turn.now marks now running right
    ∙ (ap rule_of_answer c.in_ok-reached.ensures.reached.1.answer ∙ third-rule c.args.self.now.history c.in_ok-reached.reached c.add.result c.add.ensures.fault c.add.ensures.few)
