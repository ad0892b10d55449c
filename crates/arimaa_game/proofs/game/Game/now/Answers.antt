use Rattle.std.proofs.Common.{◌≡◌, ◌∙◌, sym, Some}
use Rattle.arimaa_board.specs.Fit.{IsFit}
use Rattle.arimaa_board.specs.declared.position.Position.{Position}
use Rattle.arimaa_model.specs.Game.{present}
use Rattle.arimaa_history.proofs.Lemmas.Present.{present-holds}
use Rattle.arimaa_game.proofs.game.Game.now.Goals as goal

pub returns-clause-fit : goal.returns-clause-fit
returns-clause-fit c =
    let now : present c.self.inside.history ≡ Some c.unwrap.result = sym c.last.ensures ∙ c.unwrap.ensures in
    present-holds (λ (x : Position). IsFit x.board) c.self.inside.history c.unwrap.result c.self.invariant.game.fit now
