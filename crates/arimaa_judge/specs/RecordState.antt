-- What the lines of a record have brought about so far.
use Rattle.std.specs.Prelude.{Bool, false, true, List, [], ◌∷◌, ◌++◌, reverse, Option, None, Some, Result, Ok, Err, is_some, not, ◌||◌}
use Rattle.arimaa_board.specs.declared.board.Board.{Board}
use Rattle.arimaa_board.specs.declared.piece.Color.{Color}
use Rattle.arimaa_board.specs.declared.piece.Color.TheVariants.{Gold}
use Rattle.arimaa_board.specs.declared.position.Position.{Position}
use Rattle.arimaa_board.specs.declared.position.Step.{Step}
use Rattle.arimaa_board.specs.Setup.{Lineup}
use Rattle.arimaa_board.specs.NotedTurns.{noted_turn}
use Rattle.arimaa_board.specs.declared.ending.Ending.{Ending}
use Rattle.arimaa_board.specs.declared.ending.Word.{Word}
use Rattle.arimaa_model.specs.Faults.{reached_by}
use Rattle.arimaa_model.specs.Game.{closed_by, ending, present}
use Rattle.arimaa_model.specs.Wins.{is_nil}
use Rattle.arimaa_record.specs.Label.{label_of, next_label}
use Rattle.arimaa_record.specs.declared.label.Label.{Label}
use Rattle.arimaa_record.specs.declared.line.RecordLine.{RecordLine}
use Rattle.arimaa_record.specs.declared.line.RecordLine.TheVariants as line
use Rattle.arimaa_record.specs.declared.fault.LineFault.{LineFault}
use Rattle.arimaa_game.specs.Setups.{position_after_setups}
use Rattle.arimaa_history.specs.Counts.{without_last}

-- what a line of a record was read as
abbrev pub Reading : Type 0
Reading = Result RecordLine LineFault

-- the state of a record before a line: Gold's setup while Silver's is due, the positions of the
-- game, the labels of the turn lines that stand, the last first, the label that is due, whether a
-- closing or bare line came before, and the ending that a closing word declared
pub record RecordState : Type 0 where
  pub gold : Option Lineup
  pub history : List Position
  pub labels : List Label
  pub due : Label
  pub closed : Bool
  pub word : Option Ending

-- the label that is due at the beginning of a record
abbrev pub first_label : Label
first_label = label_of 1 Gold

-- before the first line
abbrev pub before_lines : RecordState
before_lines = record {
  gold = None;
  history = [];
  labels = [];
  due = first_label;
  closed = false;
  word = None;
}

-- the game has a position: a turn is due, and no setup
abbrev pub is_playing : RecordState → Bool
is_playing s = not (is_nil s.history)

-- a start line or a setup came before
abbrev pub has_begun : RecordState → Bool
has_begun s = is_some s.gold || is_playing s

-- the game has ended by the rules
abbrev pub has_ended : RecordState → Bool
has_ended s = is_some (ending s.history)

-- an ending that a word declared, or else that of the rules
abbrev pub declared_or : Option Ending → Option Ending → Option Ending
declared_or (Some e) by_rules = Some e
declared_or None by_rules = by_rules

-- how the game has ended: by a closing word, or by the rules
abbrev pub state_ending : RecordState → Option Ending
state_ending s = declared_or s.word (ending s.history)

-- the positions after a list of steps from the present one
abbrev pub with_turn : List Position → List Step → List Position
with_turn h steps = added (present h) where
  added : Option Position → List Position
  added None = h
  added (Some p) = h ++ reached_by p (reverse steps) ∷ []

-- after a start line: its position is the first of the game, and its own label is due
abbrev pub with_start : RecordState → Label → Board → RecordState
with_start s label board =
    let p : Position = record { board = board; side = label.side } in
    record s { gold = None; history = p ∷ []; due = label }

-- after a setup, where Gold's stands or does not: the first is Gold's, and with the second the game
-- begins
abbrev pub with_setup_after : RecordState → Lineup → Option Lineup → RecordState
with_setup_after s lineup None = record s { gold = Some lineup; due = next_label s.due }
with_setup_after s lineup (Some gold) = record s {
  gold = None;
  history = position_after_setups gold lineup ∷ [];
  due = next_label s.due;
}

-- after a setup
abbrev pub with_setup : RecordState → Lineup → RecordState
with_setup s lineup = with_setup_after s lineup s.gold

-- after a turn that is played
abbrev pub with_played : RecordState → List Step → RecordState
with_played s steps = record s {
  history = with_turn s.history steps;
  labels = s.due ∷ s.labels;
  due = next_label s.due;
}

-- the side whose setup or turn is due: the side to move, and before there is a position that of the
-- label
abbrev pub side_due : RecordState → Color
side_due s = to_move (present s.history) where
  to_move : Option Position → Color
  to_move None = s.due.side
  to_move (Some p) = p.side

-- after a closing word: the side that is due has lost
abbrev pub with_closing : RecordState → Word → RecordState
with_closing s word = record s { closed = true; word = Some (closed_by word (side_due s)) }

-- after a label alone
abbrev pub with_bare : RecordState → RecordState
with_bare s = record s { closed = true }

-- after the last of these turn lines is taken back: what it brought about is gone, and its label is
-- due again
abbrev pub without_turn : RecordState → List Label → RecordState
without_turn s [] = s
without_turn s (label ∷ labels) =
    record s { history = without_last s.history; labels = labels; due = label }

-- after a takeback
abbrev pub with_turn_back : RecordState → RecordState
with_turn_back s = without_turn s s.labels

-- after a line that is accepted
abbrev pub after_line : RecordState → RecordLine → RecordState
after_line s line.Blank = s
after_line s (line.Start number side board) = with_start s (label_of number side) board
after_line s (line.Setup number side lineup) = with_setup s lineup
after_line s (line.Turn number side noted) = with_played s (noted_turn noted)
after_line s (line.Closing number side word) = with_closing s word
after_line s (line.Bare number side) = with_bare s
after_line s (line.Takeback number side) = with_turn_back s

-- the state after what a line was read as
abbrev pub after_reading : RecordState → Reading → RecordState
after_reading s (Ok l) = after_line s l
after_reading s (Err _) = s
