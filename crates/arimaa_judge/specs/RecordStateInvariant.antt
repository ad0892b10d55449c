-- What the code keeps of a record, and what holds of it.
use Rattle.std.specs.Prelude.{◌≡◌, ◌≤◌, ℕ, zero, suc, false, List, [], ◌∷◌, Option, None, Some, IfSome}
use Rattle.arimaa_board.specs.declared.piece.Color.{Color}
use Rattle.arimaa_board.specs.declared.piece.Color.TheVariants.{Gold, Silver}
use Rattle.arimaa_board.specs.declared.position.Position.{Position}
use Rattle.arimaa_board.specs.Fit.{IsFit}
use Rattle.arimaa_board.specs.Setup.{Lineup}
use Rattle.arimaa_board.specs.declared.ending.Ending.{Ending}
use Rattle.arimaa_board.specs.declared.ending.Word.{Word}
use Rattle.arimaa_model.specs.Game.{closed_by}
use Rattle.arimaa_model.specs.Wins.{is_nil}
use Rattle.arimaa_game.specs.Play.{Play, turns_in}
use Rattle.arimaa_record.specs.Label.{is_last_label, previous_label}
use Rattle.arimaa_record.specs.declared.label.Label.{Label}
use Rattle.arimaa_record.specs.declared.line.RecordLine.{RecordLine}
use Rattle.arimaa_record.specs.declared.line.RecordLine.TheVariants as line
use Rattle.arimaa_judge.specs.declared.record_state.Stage.{Stage}
use Rattle.arimaa_judge.specs.declared.record_state.Stage.TheVariants as stage

-- the positions of the game, none before it begins
abbrev pub history_of : Stage → List Position
history_of stage.Begin = []
history_of (stage.GoldPlaced gold) = []
history_of (stage.Playing g) = g.history

-- Gold's setup while Silver's is due
abbrev pub gold_of : Stage → Option Lineup
gold_of stage.Begin = None
gold_of (stage.GoldPlaced gold) = Some gold
gold_of (stage.Playing g) = None

-- a game has a position, and no word has closed it: what a word declared is kept beside it
pub record IsUnderWay (g : Play) : Type 0 where
  pub begun : is_nil g.history ≡ false
  pub unclosed : g.closing ≡ None

-- the game is under way, if there is one
abbrev pub IsOpen : Stage → Type 0
IsOpen stage.Begin = Unit {0}
IsOpen (stage.GoldPlaced gold) = Unit {0}
IsOpen (stage.Playing g) = IsUnderWay g

-- while setups are due: the side that is due, and that the setup that stands is Gold's
abbrev pub AreSetupsDue : Stage → Color → Type 0
AreSetupsDue stage.Begin side = side ≡ Gold
AreSetupsDue (stage.GoldPlaced gold) side = (gold.color ≡ Gold) × (side ≡ Silver)
AreSetupsDue (stage.Playing g) side = Unit {0}

-- an ending was declared by a word
abbrev pub IsByWord : Ending → Type 0
IsByWord e = (word : Word) × (loser : Color) × (e ≡ closed_by word loser)

-- the labels of so many turn lines that stand, the last first, where this label is due after them
-- and so many of them have it too, as only the last label of all is due after its own turn
abbrev pub labels_before : ℕ → ℕ → Label → List Label
labels_before zero repeated due = []
labels_before (suc turns) (suc repeated) due = due ∷ labels_before turns repeated due
labels_before (suc turns) zero due =
    previous_label due ∷ labels_before turns zero (previous_label due)

-- of so many turn lines that stand, so many have the label that is due: none, but for the last
-- label of all
pub record AreRepeats (turns repeated : ℕ) (due : Label) : Type 0 where
  pub last : is_last_label due ≡ false → repeated ≡ 0
  pub few : repeated ≤ turns

-- what holds of the stage, the label that is due, the number of turn lines that have it too, and
-- the ending that a word declared
pub record IsKept (at : Stage) (due : Label) (repeated : ℕ)
    (declared : Option Ending) : Type 0 where
  pub game : IsOpen at
  pub repeats : AreRepeats (turns_in (history_of at)) repeated due
  pub setups : AreSetupsDue at due.side
  pub word : IfSome declared IsByWord

-- what the reader grants of a line: a start board is fit, and a setup is of its label's side
abbrev pub IsGranted : RecordLine → Type 0
IsGranted (line.Start number side board) = IsFit board
IsGranted (line.Setup number side setup) = setup.color ≡ side
IsGranted _ = Unit {0}
