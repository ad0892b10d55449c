-- A match, as the fold of what its two ports answer and of the moments that the clock gives.
use Rattle.std.specs.Prelude.{◌≡◌, ℕ, zero, suc, ◌-◌, List, Bool, true, false, Option, None, Some, IfSome, Result, Ok, Err}
use Rattle.arimaa_board.specs.declared.piece.Color.{Color}
use Rattle.arimaa_board.specs.declared.piece.Color.TheVariants.{Gold, Silver}
use Rattle.arimaa_board.specs.Board.{same_color}
use Rattle.arimaa_aei.specs.Answers.{speech_of_line}
use Rattle.arimaa_aei.specs.declared.command.Command.{Command}
use Rattle.arimaa_aei.specs.declared.command.Command.TheVariants as command
use Rattle.arimaa_aei.specs.declared.command.OptionName.TheVariants as option
use Rattle.arimaa_engine.specs.Faults.{IsCause}
use Rattle.arimaa_engine.specs.Session.{asking, setting, telling}
use Rattle.arimaa_engine.specs.Waits.{text_of_move}
use Rattle.arimaa_time.specs.declared.control.Control.{Control}
use Rattle.arimaa_match.specs.declared.ending.MatchEnd.{MatchEnd}
use Rattle.arimaa_match.specs.declared.ending.MatchEnd.TheVariants as end
use Rattle.arimaa_match.specs.declared.ending.Verdict.{Verdict}
use Rattle.arimaa_match.specs.declared.ending.Verdict.TheVariants as verdict
use Rattle.std.specs.declared.alloc.AllocError.{AllocError}
use Rattle.arimaa_engine.specs.Talk.{Talk}
use Rattle.arimaa_match.specs.declared.ending.MatchDone.{MatchDone}
use Rattle.arimaa_match.specs.declared.side_fault.SideFault.{SideFault}
use Rattle.arimaa_match.specs.Parts.{IsNoMemory, Part, Scene, and_then, counts_at, value_part, if_fine, timing, with_engine}
use Rattle.arimaa_match.specs.MatchState.{MatchState, Ruling, before_match, broken_off, ruling, side_due}

-- a side's engine is told both reserves, in whole seconds
abbrev pub telling_reserves : Color → ℕ → ℕ → Part (Result (Unit {0}) SideFault)
telling_reserves side gold silver =
    if_fine (with_engine side (setting option.GReserve gold)) (λ _.
    with_engine side (setting option.SReserve silver))

-- the time that a side used, and the line that named its setup or turn
pub record Thought : Type 0 where
  pub used : ℕ
  pub line : List ℕ

-- a side's engine is asked, between two moments
abbrev pub asking_timed : Color → Part (Result Thought SideFault)
asking_timed side =
    and_then timing (λ before.
    if_fine (with_engine side asking) (λ line.
    and_then timing (λ after.
    value_part (Ok (record { used = after - before; line = line })))))

-- a side thinks: it is told both reserves and asked
unfoldable pub thinking : Color → ℕ → ℕ → Part (Result Thought SideFault)
thinking side gold silver = if_fine (telling_reserves side gold silver) (λ _. asking_timed side)

-- what was booked is told to Gold's engine and then to Silver's
unfoldable pub announcing : Command → Part (Result (Unit {0}) SideFault)
announcing made = if_fine (with_engine Gold (telling made)) (λ _. with_engine Silver (telling made))

-- how a match stands after a turn, and how it has ended, if it has
pub record Turned : Type 0 where
  pub state : MatchState
  pub end : Option MatchEnd

-- a fault ends the match
abbrev pub ended_by : MatchState → SideFault → Turned
ended_by s fault = record { state = broken_off s; end = Some (end.Engine fault.side fault.fault) }

-- the end of a turn whose setup or turn was told to both engines, or not
abbrev pub after_announcing : MatchState → Result (Unit {0}) SideFault → Turned
after_announcing s (Ok _) = record { state = s; end = None }
after_announcing s (Err fault) = ended_by s fault

-- the end of a turn by the verdict on the side's answer
abbrev pub after_verdict : MatchState → Verdict → Part Turned
after_verdict s (verdict.Won winner cause) =
    value_part (record { state = s; end = Some (end.Won winner cause) })
after_verdict s verdict.Limit = value_part (record { state = s; end = Some end.Limit })
after_verdict s (verdict.Moved made) =
    and_then (announcing made) (λ told. value_part (after_announcing s told))

-- what follows on a ruling
abbrev pub after_ruling : Ruling → Part Turned
after_ruling r = after_verdict r.state r.verdict

-- what follows on what a side thought: the answer is ruled on, or the fault ends the match
abbrev pub after_thinking : MatchState → Result Thought SideFault → Part Turned
after_thinking s (Err fault) = value_part (ended_by s fault)
after_thinking s (Ok t) = after_ruling (ruling s t.used (text_of_move (speech_of_line t.line)))

-- one setup or turn of the side that is due
unfoldable pub turn : MatchState → Part Turned
turn s =
    and_then (thinking (side_due s) s.gold_account.reserve s.silver_account.reserve)
    (after_thinking s)

-- a match that has ended, and how it stands
pub record Finished : Type 0 where
  pub final : MatchState
  pub how : MatchEnd

-- what follows on a turn by how it has ended the match, if it has
abbrev pub after_turn : (MatchState → Part Finished) → MatchState → Option MatchEnd → Part Finished
after_turn later s None = later s
after_turn later s (Some how) = value_part (record { final = s; how = how })

-- the setups and turns from a state on, where so many may come
unfoldable pub playing : ℕ → MatchState → Part Finished
playing zero s = value_part (record { final = s; how = end.Limit })
playing (suc n) s = and_then (turn s) (λ t. after_turn (playing n) t.state t.end)

-- whether the session of a side is broken at such an end
abbrev pub broken_at : Color → MatchEnd → Bool
broken_at side (end.Engine broken why) = same_color side broken
broken_at side (end.Won winner cause) = false
broken_at side end.Limit = false

-- the same where the match may go on
abbrev pub broken_after : Color → Option MatchEnd → Bool
broken_after side None = false
broken_after side (Some how) = broken_at side how

-- the sessions are broken as the end says
pub record AreEnded {P : Type 0} (how : Option MatchEnd) (gold silver : Talk P) : Type 0 where
  pub gold_so : gold.broken ≡ broken_after Gold how
  pub silver_so : silver.broken ≡ broken_after Silver how

-- where an engine fault ends the match, it is none of memory and has its cause in what that side's
-- port counted
abbrev pub IfEngineFault : Scene → Scene → MatchEnd → Type 0
IfEngineFault before now (end.Engine side why) =
    IsCause (counts_at side before) (counts_at side now) why × IsNoMemory why
IfEngineFault before now (end.Won winner cause) = Unit {0}
IfEngineFault before now end.Limit = Unit {0}

-- the same where the match may go on
abbrev pub IfEndsByFault : Scene → Scene → Option MatchEnd → Type 0
IfEndsByFault before now how = IfSome how (IfEngineFault before now)

-- a session is ended, unless it is broken; a fault changes nothing
abbrev pub quitting : Color → Bool → Part (Unit {0})
quitting side true = value_part tt
quitting side false = and_then (with_engine side (telling command.Quit)) (λ _. value_part tt)

-- each session that is not broken is ended, Gold's first
abbrev pub quitting_both : MatchEnd → Part (Unit {0})
quitting_both how =
    and_then (quitting Gold (broken_at Gold how)) (λ _. quitting Silver (broken_at Silver how))

-- what a match leaves: its record, its end and its log
abbrev pub left_by : Finished → MatchDone
left_by f = record { written = f.final.lines; ending = f.how; log = f.final.log }

-- a match between two engines: at most both setups and 100,000 turns, and then the sessions are
-- ended
unfoldable pub match_of : Control → Part MatchDone
match_of control =
    and_then (playing 100002 (before_match control))
    (λ f. and_then (quitting_both f.how) (λ _. value_part (left_by f)))

-- a turn that came to this, at this state
abbrev pub turned_as : MatchState → Result (Option MatchEnd) AllocError → Result Turned AllocError
turned_as s (Ok how) = Ok (record { state = s; end = how })
turned_as s (Err e) = Err e

-- setups and turns that came to this end, at this state
abbrev pub finished_as : MatchState → Result MatchEnd AllocError → Result Finished AllocError
finished_as s (Ok how) = Ok (record { final = s; how = how })
finished_as s (Err e) = Err e
