-- What the code keeps of the game of a match.
use Rattle.std.specs.Prelude.{◌≡◌, List, [], Option, None, Some}
use Rattle.arimaa_board.specs.declared.piece.Color.{Color}
use Rattle.arimaa_board.specs.declared.piece.Color.TheVariants.{Gold, Silver}
use Rattle.arimaa_board.specs.declared.position.Position.{Position}
use Rattle.arimaa_board.specs.Setup.{Lineup}
use Rattle.arimaa_record.specs.Label.{next_label}
use Rattle.arimaa_judge.specs.RecordState.{RecordState, with_setup}
use Rattle.arimaa_judge.specs.RecordStateInvariant.{IsUnderWay}
use Rattle.arimaa_match.specs.declared.game.Phase.{Phase}
use Rattle.arimaa_match.specs.declared.game.Phase.TheVariants as phase

-- the positions of the game, none before both setups stand
abbrev pub history_of : Phase → List Position
history_of (phase.SettingUp gold) = []
history_of (phase.Playing g) = g.history

-- Gold's setup while Silver's is due
abbrev pub gold_of : Phase → Option Lineup
gold_of (phase.SettingUp gold) = gold
gold_of (phase.Playing g) = None

-- while setups are due: the side that is due, and that the setup that stands is Gold's
abbrev pub AreSetupsDue : Option Lineup → Color → Type 0
AreSetupsDue None side = side ≡ Gold
AreSetupsDue (Some gold) side = (gold.color ≡ Gold) × (side ≡ Silver)

-- what holds of the game and of the side that is due
abbrev pub IsKept : Phase → Color → Type 0
IsKept (phase.SettingUp gold) side = AreSetupsDue gold side
IsKept (phase.Playing g) side = IsUnderWay g

-- a setup brings the game to this phase
pub record IsPlaced (game : RecordState) (setup : Lineup) (at : Phase) : Type 0 where
  pub gold : gold_of at ≡ (with_setup game setup).gold
  pub history : history_of at ≡ (with_setup game setup).history
  pub kept : IsKept at (next_label game.due).side
