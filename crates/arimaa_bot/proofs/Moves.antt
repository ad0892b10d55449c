-- Turns that are told, lawful or not.
use Rattle.std.proofs.Common.{◌≡◌, List, None, Some, Result, Ok, Err, true, false, ap, refl, sym}
use Rattle.arimaa_board.specs.declared.position.Position.{Position}
use Rattle.arimaa_board.specs.declared.turn.NotedStep.{NotedStep}
use Rattle.arimaa_board.specs.NotedTurns.{noted_turn}
use Rattle.arimaa_model.specs.Game.{present}
use Rattle.arimaa_step.specs.declared.marks.Marks.TheVariants.{Optional}
use Rattle.arimaa_step.specs.MarkRules.{marks_fit}
use Rattle.arimaa_game.specs.declared.fault.GameFault.{GameFault}
use Rattle.arimaa_game.specs.declared.fault.GameFault.TheVariants as faults
use Rattle.arimaa_game.specs.Faults.{IsFaultOf}
use Rattle.arimaa_game.specs.Play.{GoesOn, Play, play_outcome}
use Rattle.arimaa_bot.specs.Stages.{grown_by, game_after_turn}

module _ (g : Play) (p : Position) (noted : List NotedStep) (now : present g.history ≡ Some p) where
  -- a mark is wrong
  pub moved_misfit : marks_fit Optional p.board noted ≡ false → game_after_turn g noted ≡ None
  moved_misfit misfit = rw (now, misfit) refl

  -- the turn is played
  pub moved_on : (new : Play) → marks_fit Optional p.board noted ≡ true → GoesOn g (noted_turn noted) new → game_after_turn g noted ≡ Some new
  moved_on new fits went = rw (now, fits, went.2.answer) (ap Some (sym went.3))

  refused : (r : Result Position GameFault) (e : GameFault) → (e ≡ faults.Memory → ⊥) → IsFaultOf r e → grown_by g r ≡ None
  refused (Ok q) e other is = absurd (other is)
  refused (Err why) e other is = refl

  -- the turn is refused
  pub moved_refused : (e : GameFault) → marks_fit Optional p.board noted ≡ true → (e ≡ faults.Memory → ⊥) → IsFaultOf (play_outcome g (noted_turn noted)) e → game_after_turn g noted ≡ None
  moved_refused e fits other is = rw (now, fits) (refused (play_outcome g (noted_turn noted)) e other is)
