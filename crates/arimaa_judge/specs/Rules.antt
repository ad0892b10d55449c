-- The first rule that a line of a record breaks.
use Rattle.std.specs.Prelude.{◌==◌, Bool, ◌&&◌, not, List, Option, None, Some, Ok, Err, if◌then◌else◌, unwrap_or}
use Rattle.std.specs.Option.{option_or}
use Rattle.arimaa_board.specs.declared.position.Position.{Position}
use Rattle.arimaa_board.specs.declared.turn.NotedStep.{NotedStep}
use Rattle.arimaa_board.specs.Board.{same_color}
use Rattle.arimaa_board.specs.NotedTurns.{noted_turn, noted_marks}
use Rattle.arimaa_model.specs.declared.fault.FirstFault.{FirstFault}
use Rattle.arimaa_model.specs.declared.fault.FirstFault.TheVariants as faults
use Rattle.arimaa_model.specs.declared.fault.StepFault.{StepFault}
use Rattle.arimaa_model.specs.declared.fault.StepFault.TheVariants as stepping
use Rattle.arimaa_model.specs.declared.fault.TurnFault.{TurnFault}
use Rattle.arimaa_model.specs.declared.fault.TurnFault.TheVariants as turning
use Rattle.arimaa_model.specs.FirstFaults.{first_fault_in}
use Rattle.arimaa_model.specs.Game.{present}
use Rattle.arimaa_model.specs.Wins.{is_nil}
use Rattle.arimaa_game.specs.declared.fault.GameFault.{GameFault}
use Rattle.arimaa_game.specs.declared.fault.GameFault.TheVariants as refusing
use Rattle.arimaa_record.specs.Label.{label_of}
use Rattle.arimaa_record.specs.declared.label.Label.{Label}
use Rattle.arimaa_record.specs.declared.line.RecordLine.{RecordLine}
use Rattle.arimaa_record.specs.declared.line.RecordLine.TheVariants as line
use Rattle.arimaa_record.specs.declared.fault.LineFault.{LineFault}
use Rattle.arimaa_record.specs.declared.fault.LineFault.TheVariants as reading
use Rattle.arimaa_judge.specs.declared.rule.Rule.{Rule}
use Rattle.arimaa_judge.specs.declared.rule.Rule.TheVariants as rule
use Rattle.arimaa_judge.specs.RecordState.{Reading, RecordState, has_begun, has_ended, is_playing}

-- this label has the number and the side of the one that is due
abbrev pub same_label : Label → Label → Bool
same_label due label = (label.number == due.number) && same_color label.side due.side

-- the rule of a step that is refused
abbrev pub rule_of_step : StepFault → Rule
rule_of_step stepping.Fifth = rule.Steps
rule_of_step stepping.Piece = rule.Piece
rule_of_step stepping.Target = rule.Target
rule_of_step stepping.OpenPush = rule.OpenPush
rule_of_step stepping.Dislodge = rule.Dislodge
rule_of_step stepping.Frozen = rule.Frozen
rule_of_step stepping.RabbitBack = rule.Rabbit

-- the rule of steps that are no turn; a turn without steps ends no move
abbrev pub rule_of_turn : TurnFault → Rule
rule_of_turn turning.Empty = rule.Unfinished
rule_of_turn turning.Unfinished = rule.Unfinished
rule_of_turn turning.Same = rule.Same

-- the rule of the first fault of a turn
abbrev pub rule_of_fault : FirstFault → Rule
rule_of_fault (faults.Step _ fault) = rule_of_step fault
rule_of_fault faults.Mark = rule.Mark
rule_of_fault (faults.Turn fault) = rule_of_turn fault
rule_of_fault faults.Repeat = rule.Repeat

-- the rule of the first fault of a turn, if there is one
abbrev pub rule_of_first : Option FirstFault → Option Rule
rule_of_first None = None
rule_of_first (Some fault) = Some (rule_of_fault fault)

-- the rule that a turn with its marks breaks where it is played in a game with this history
abbrev pub turn_rule : List Position → List NotedStep → Option Rule
turn_rule h noted = played_from (present h) where
  played_from : Option Position → Option Rule
  played_from None = None
  played_from (Some p) = rule_of_first (first_fault_in h p (noted_turn noted) (noted_marks noted))

-- the rule that a line breaks which a game refuses: want of memory breaks none
abbrev pub rule_of_game_fault : GameFault → Option Rule
rule_of_game_fault refusing.Over = Some rule.Over
rule_of_game_fault refusing.NoTurn = Some rule.Takeback
rule_of_game_fault (refusing.Step _ fault) = Some (rule_of_step fault)
rule_of_game_fault refusing.Mark = Some rule.Mark
rule_of_game_fault (refusing.Turn fault) = Some (rule_of_turn fault)
rule_of_game_fault refusing.Repeat = Some rule.Repeat
rule_of_game_fault refusing.Memory = None

-- a line has to have the label that is due, and may say no more than a label once the rules have
-- ended the game
abbrev pub rule_of_label : RecordState → Label → Option Rule
rule_of_label s label =
    if not (same_label s.due label) then Some rule.Number
    else if has_ended s then Some rule.Over
    else None

-- a start line is the first line with content; it may have any label
abbrev pub rule_of_start : RecordState → Option Rule
rule_of_start s = if has_begun s then Some rule.Form else None

-- a setup may not stand where a turn is due
abbrev pub rule_of_setup : RecordState → Label → Option Rule
rule_of_setup s label =
    option_or (rule_of_label s label) (if is_playing s then Some rule.Form else None)

-- a turn may not stand where a setup is due, and it keeps the rules of the game
abbrev pub rule_of_turn_line : RecordState → Label → List NotedStep → Option Rule
rule_of_turn_line s label noted =
    option_or (rule_of_label s label)
    (if is_playing s then turn_rule s.history noted else Some rule.Form)

-- a takeback needs a turn that stands
abbrev pub rule_of_takeback : RecordState → Label → Option Rule
rule_of_takeback s label =
    option_or (rule_of_label s label) (if is_nil s.labels then Some rule.Takeback else None)

-- a label alone has to be the one that is due
abbrev pub rule_of_bare : RecordState → Label → Option Rule
rule_of_bare s label = if not (same_label s.due label) then Some rule.Number else None

-- the first rule that a line breaks where no line has closed the record: a line without content
-- breaks none
abbrev pub rule_of_line : RecordState → RecordLine → Option Rule
rule_of_line s line.Blank = None
rule_of_line s (line.Start number side board) = rule_of_start s
rule_of_line s (line.Setup number side setup) = rule_of_setup s (label_of number side)
rule_of_line s (line.Turn number side noted) = rule_of_turn_line s (label_of number side) noted
rule_of_line s (line.Closing number side word) = rule_of_label s (label_of number side)
rule_of_line s (line.Bare number side) = rule_of_bare s (label_of number side)
rule_of_line s (line.Takeback number side) = rule_of_takeback s (label_of number side)

-- the first rule that a line breaks which is none of a record's lines, where no line has closed the
-- record
abbrev pub rule_of_line_fault : RecordState → LineFault → Rule
rule_of_line_fault s reading.Text = rule.Text
rule_of_line_fault s (reading.Steps _ _) = rule.Steps
rule_of_line_fault s (reading.BadStart _ _ _) = if has_begun s then rule.Form else rule.Start
rule_of_line_fault s (reading.BadSetup number side) =
    unwrap_or (rule_of_label s (label_of number side))
    (if is_playing s then rule.Form else rule.Setup)

-- after a closing line or a label alone no line with content may follow
abbrev pub rule_after_closing : RecordLine → Option Rule
rule_after_closing line.Blank = None
rule_after_closing _ = Some rule.After

-- the first rule that a line breaks, as it was read, in this state of the record
abbrev pub rule_at : RecordState → Reading → Option Rule
rule_at s (Ok l) = if s.closed then rule_after_closing l else rule_of_line s l
rule_at s (Err f) = Some (if s.closed then rule.After else rule_of_line_fault s f)
