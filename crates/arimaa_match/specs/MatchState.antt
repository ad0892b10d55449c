-- The state of a match, and what a side's answer does to it.
use Rattle.std.specs.Prelude.{◌≡◌, ℕ, ◌+◌, List, [], ◌∷◌, ◌++◌, Bool, false, ◌||◌, Option, None, Some, Result, IfOk, codes, nat_le, is_some, length, fold, if◌then◌else◌, option_map}
use Rattle.std.specs.Str.{bytes_eq}
use Rattle.std.specs.declared.alloc.AllocError.{AllocError}
use Rattle.arimaa_board.specs.declared.board.Board.{Board}
use Rattle.arimaa_board.specs.declared.piece.Color.{Color}
use Rattle.arimaa_board.specs.declared.piece.Color.TheVariants.{Gold, Silver}
use Rattle.arimaa_board.specs.declared.piece.Piece.{Piece}
use Rattle.arimaa_board.specs.declared.position.Position.{Position}
use Rattle.arimaa_board.specs.declared.position.Step.{Step}
use Rattle.arimaa_board.specs.declared.turn.NotedStep.{NotedStep}
use Rattle.arimaa_board.specs.Piece.{other_color}
use Rattle.arimaa_board.specs.NotedTurns.{noted_turn}
use Rattle.arimaa_board.specs.Setup.{Lineup}
use Rattle.arimaa_board.specs.declared.ending.Ending.{Ending}
use Rattle.arimaa_board.specs.declared.ending.Word.{Word}
use Rattle.arimaa_board.specs.declared.ending.Word.TheVariants as word
use Rattle.arimaa_model.specs.Game.{ending, present}
use Rattle.arimaa_model.specs.Marks.{marks_of}
use Rattle.arimaa_step.specs.declared.marks.Marks.TheVariants.{Optional}
use Rattle.arimaa_step.specs.MarkRules.{marks_fit}
use Rattle.arimaa_notation.specs.Readers.{setup_of_text, turn_of_text}
use Rattle.arimaa_record.specs.Label.{label_of, next_label}
use Rattle.arimaa_record.specs.declared.label.Label.{Label}
use Rattle.arimaa_record.specs.declared.line.RecordLine.{RecordLine}
use Rattle.arimaa_record.specs.declared.line.RecordLine.TheVariants as line
use Rattle.arimaa_judge.specs.RecordState.{RecordState, after_line, before_lines, is_playing, with_turn}
use Rattle.arimaa_judge.specs.Rules.{turn_rule}
use Rattle.arimaa_judge.specs.declared.rule.Rule.{Rule}
use Rattle.arimaa_judge.specs.declared.rule.Rule.TheVariants as rule
use Rattle.arimaa_aei.specs.declared.command.Command.{Command}
use Rattle.arimaa_aei.specs.declared.command.Command.TheVariants as command
use Rattle.arimaa_time.specs.declared.control.Control.{Control}
use Rattle.arimaa_time.specs.declared.control.GameLimit.{GameLimit}
use Rattle.arimaa_time.specs.declared.control.GameLimit.TheVariants as limit
use Rattle.arimaa_clock.specs.ClockState.{Standing}
use Rattle.arimaa_clock.specs.Account.{answer_of, account_once_booked, new_account}
use Rattle.arimaa_clock.specs.declared.account.Spend.{Spend}
use Rattle.arimaa_clock.specs.declared.account.Spend.TheVariants as spend
use Rattle.arimaa_outside.specs.Counts.{capped_sum}
use Rattle.arimaa_match.specs.declared.ending.MatchCause.{MatchCause}
use Rattle.arimaa_match.specs.declared.ending.MatchCause.TheVariants as cause
use Rattle.arimaa_match.specs.declared.ending.Verdict.{Verdict}
use Rattle.arimaa_match.specs.declared.ending.Verdict.TheVariants as verdict
use Rattle.arimaa_match.specs.declared.log.Booked.{Booked}

-- the state of a match: the time control, both accounts, the state of the record after what was
-- booked, the lines of the record, the log, and the sum of the times used
pub record MatchState : Type 0 where
  pub control : Control
  pub gold_account : Standing
  pub silver_account : Standing
  pub game : RecordState
  pub lines : List RecordLine
  pub log : List Booked
  pub used : ℕ

-- the labels of turn lines, the last first, and that of one line more, if it is one
abbrev pub labels_with : List Label → RecordLine → List Label
labels_with labels (line.Turn number side noted) = label_of number side ∷ labels
labels_with labels _ = labels

-- the labels of the turn lines of a record in which none is taken back, the last first
abbrev pub turn_labels : List RecordLine → List Label
turn_labels lines = fold labels_with [] lines

-- before the first setup
abbrev pub before_match : Control → MatchState
before_match c = record {
  control = c;
  gold_account = new_account c;
  silver_account = new_account c;
  game = before_lines;
  lines = [];
  log = [];
  used = 0;
}

-- the side whose setup or turn is due
abbrev pub side_due : MatchState → Color
side_due s = s.game.due.side

-- the account of a side
abbrev pub account_of : MatchState → Color → Standing
account_of s Gold = s.gold_account
account_of s Silver = s.silver_account

-- a line that ends the record
abbrev pub with_last_line : MatchState → RecordLine → MatchState
with_last_line s l = record s { lines = s.lines ++ l ∷ [] }

-- the record breaks off: a bare line of the label that is due
abbrev pub broken_off : MatchState → MatchState
broken_off s = with_last_line s (line.Bare s.game.due.number s.game.due.side)

-- the side that is due loses by a word
abbrev pub loss_by_word : MatchState → Word → MatchState
loss_by_word s w = with_last_line s (line.Closing s.game.due.number s.game.due.side w)

-- the side that is due resigns
abbrev pub is_resignation : List ℕ → Bool
is_resignation words = bytes_eq words (codes "resign") || bytes_eq words (codes "resigns")

-- what a side makes: a setup, or a turn with its right marks
pub data Made : Type 0 where
  Places : Lineup → Made
  Moves : List NotedStep → Made

-- steps with these marks
abbrev pub with_marks : List Step → List (Option (Piece × ℕ)) → List NotedStep
with_marks (step ∷ steps) (mark ∷ marks) =
    record { step = step; mark = mark } ∷ with_marks steps marks
with_marks _ _ = []

-- steps with their right marks
abbrev pub rightly_marked : Board → List Step → List NotedStep
rightly_marked b steps = with_marks steps (marks_of b steps)

-- the rule that a turn breaks, if it breaks one: no turn is played in a game that has ended
abbrev pub rule_broken : List Position → List NotedStep → Option Rule
rule_broken h noted = if is_some (ending h) then Some rule.Over else turn_rule h noted

-- a turn that breaks no rule
abbrev pub if_lawful : List Position → List NotedStep → Option (List NotedStep)
if_lawful h noted = if is_some (rule_broken h noted) then None else Some noted

-- a turn with its right marks, where its own marks are left out or right and the turn breaks no
-- rule
abbrev pub turn_at : List Position → Option Position → List NotedStep → Option (List NotedStep)
turn_at h None noted = None
turn_at h (Some p) noted =
    if marks_fit Optional p.board noted
    then if_lawful h (rightly_marked p.board (noted_turn noted))
    else None

abbrev pub turn_in : List Position → List NotedStep → Option (List NotedStep)
turn_in h noted = turn_at h (present h) noted

-- the same where a turn was read, or not
abbrev pub turn_read_in : List Position → Option (List NotedStep) → Option (List NotedStep)
turn_read_in h None = None
turn_read_in h (Some noted) = turn_in h noted

-- what the side that is due makes by these words, if it makes something lawful: a setup while
-- setups are due, and else a turn
abbrev pub made_by : MatchState → List ℕ → Option Made
made_by s words =
    if is_playing s.game then option_map Moves (turn_read_in s.game.history (turn_of_text words))
    else option_map Places (setup_of_text (side_due s) words)

-- the line of a record that says what the side that is due made
abbrev pub line_of : MatchState → Made → RecordLine
line_of s (Places setup) = line.Setup s.game.due.number s.game.due.side setup
line_of s (Moves noted) = line.Turn s.game.due.number s.game.due.side noted

-- what both engines are told of it
abbrev pub command_of : Made → Command
command_of (Places setup) = command.MakeSetup setup
command_of (Moves noted) = command.MakeMove noted

-- the account of the side that is due is spent
abbrev pub spent_by : Color → MatchState → ℕ → MatchState
spent_by Gold s used = record s { gold_account = account_once_booked s.gold_account used }
spent_by Silver s used = record s { silver_account = account_once_booked s.silver_account used }

abbrev pub with_time_spent : MatchState → ℕ → MatchState
with_time_spent s used = spent_by (side_due s) s used

-- the time that the side that is due used, with its reserve
abbrev pub booked_now : MatchState → ℕ → Booked
booked_now s used = record {
  side = side_due s;
  used = used;
  reserve = (account_of s (side_due s)).reserve;
}

-- the time that the side that is due used is logged, with its reserve; the sum ends at the last
-- number of 64 bits
abbrev pub with_time_logged : MatchState → ℕ → MatchState
with_time_logged s used = record s {
  log = s.log ++ booked_now s used ∷ [];
  used = capped_sum s.used used;
}

-- a line of a setup or turn is added to the record
abbrev pub with_line : MatchState → RecordLine → MatchState
with_line s l = record s { game = after_line s.game l; lines = s.lines ++ l ∷ [] }

-- the line of a turn is added to the record of a game that has the turn's position already
abbrev pub turn_written : MatchState → List NotedStep → MatchState
turn_written s noted = record s {
  game = record s.game { labels = s.game.due ∷ s.game.labels; due = next_label s.game.due };
  lines = s.lines ++ line_of s (Moves noted) ∷ [];
}

-- the limit of the game is reached by time or by turns
abbrev pub is_over_limit : GameLimit → ℕ → ℕ → Bool
is_over_limit limit.None used turns = false
is_over_limit (limit.Time most) used turns = nat_le most used
is_over_limit (limit.Turns most) used turns = nat_le most turns

-- the limit of the game is reached, or that of every match: 100,000 turns
abbrev pub is_over : MatchState → Bool
is_over s =
    is_over_limit s.control.game s.used (length s.game.labels)
    || nat_le 100000 (length s.game.labels)

-- what is ruled on an answer, and the state of the match after it
pub record Ruling : Type 0 where
  pub state : MatchState
  pub verdict : Verdict

-- the side that is due in a state has lost by this cause, and its record has ended so
abbrev pub lost_by : MatchState → MatchState → MatchCause → Ruling
lost_by s ended why = record { state = ended; verdict = verdict.Won (other_color (side_due s)) why }

-- the limit ends the match, and else both engines are told what was booked
abbrev pub unless_over : MatchState → Command → Ruling
unless_over s told =
    if is_over s then record { state = broken_off s; verdict = verdict.Limit }
    else record { state = s; verdict = verdict.Moved told }

-- a setup or turn was booked: the rules may have ended the game
abbrev pub after_booking : MatchState → Command → Option Ending → Ruling
after_booking s told (Some e) =
    record { state = s; verdict = verdict.Won e.winner (cause.Rules e.cause) }
after_booking s told None = unless_over s told

abbrev pub booking : MatchState → Command → Ruling
booking s told = after_booking s told (ending s.game.history)

-- what is ruled on an answer in time that is no resignation: what the side made is booked, and else
-- it has lost
abbrev pub ruling_of : MatchState → ℕ → Option Made → Ruling
ruling_of s used None = lost_by s (broken_off s) cause.Illegal
ruling_of s used (Some made) =
    booking (with_line (with_time_logged s used) (line_of s made)) (command_of made)

-- what is ruled on an answer in time: a resignation comes first
abbrev pub in_time : MatchState → ℕ → List ℕ → Ruling
in_time s used words =
    if is_resignation words then lost_by s (loss_by_word s word.Resigns) cause.Resign
    else ruling_of s used (made_by s words)

-- what is ruled once the account was spent
abbrev pub ruling_after : MatchState → ℕ → List ℕ → Spend → Ruling
ruling_after s used words spend.Out = lost_by s (loss_by_word s word.Time) cause.Time
ruling_after s used words (spend.Kept reserve) = in_time s used words

-- what is ruled on an answer of the side that is due, after this time: its account is spent first
unfoldable pub ruling : MatchState → ℕ → List ℕ → Ruling
ruling s used words =
    ruling_after (with_time_spent s used) used words (answer_of (account_of s (side_due s)) used)

-- a call has ruled so, unless it ran out of memory
abbrev pub HasRuled : Ruling → MatchState → Result Verdict AllocError → Type 0
HasRuled r now result = IfOk result (λ v. (now ≡ r.state) × (v ≡ r.verdict))

-- the positions after a turn that is made, or not
abbrev pub history_with : List Position → Option (List NotedStep) → List Position
history_with h None = h
history_with h (Some noted) = with_turn h (noted_turn noted)
