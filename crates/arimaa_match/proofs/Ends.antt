-- The end of a match: the sessions are ended.
use Rattle.std.proofs.Common.{◌≡◌, ◌∙◌, List, ℕ, Bool, true, false, Result, Ok, Err, ap, subst, sym}
use Rattle.std.specs.declared.alloc.AllocError.{AllocError}
use Rattle.arimaa_aei.specs.declared.command.Command.TheVariants as command
use Rattle.arimaa_board.specs.declared.piece.Color.{Color}
use Rattle.arimaa_engine.specs.Session.{telling}
use Rattle.arimaa_match.specs.declared.ending.MatchEnd.{MatchEnd}
use Rattle.arimaa_match.specs.declared.ending.MatchDone.{MatchDone}
use Rattle.arimaa_match.specs.declared.log.Booked.{Booked}
use Rattle.arimaa_match.specs.declared.side_fault.SideFault.{SideFault}
use Rattle.arimaa_record.specs.declared.line.RecordLine.{RecordLine}
use Rattle.arimaa_match.specs.Match.{Finished, playing, quitting}
use Rattle.arimaa_match.specs.Parts.{Scene, Went, value_part, with_engine}
use Rattle.arimaa_match.specs.MatchState.{MatchState}
use Rattle.arimaa_match.proofs.Parts.{went_done, went_off, went_on}
use Rattle.arimaa_match.proofs.Turns.{went_to}

-- the same where it is known whether the session is broken
pub quitting_as :
    (side : Color) {b other : Bool} {old new : Scene} {r : Result (Unit {0}) AllocError}
    → Went (quitting side b) old new r → b ≡ other → Went (quitting side other) old new r
quitting_as side {b} {other} {old} {new} {r} a same =
    subst (λ b. Went (quitting side b) old new r) same a

-- a broken session is left
pub quit_broken : (side : Color) {b : Bool} {s : Scene} → b ≡ true
    → Went (quitting side b) s s (Ok tt)
quit_broken side same = quitting_as side went_done (sym same)

-- a session was told to quit, or the memory was wanting
pub quit_told :
    (side : Color) {b : Bool} {old new : Scene} {r : Result
    (Result (Unit {0}) SideFault) AllocError} {x : Result (Unit {0}) SideFault} → b ≡ false
    → Went (with_engine side (telling command.Quit)) old new r → r ≡ Ok x
    → Went (quitting side b) old new (Ok tt)
quit_told side {b} {old} {new} {r} {x} same a is =
    quitting_as side {b = false}
    (went_on _ (subst
    (λ (r : Result (Result (Unit {0}) SideFault) AllocError). Went
    (with_engine side (telling command.Quit)) old new r) is a) went_done) (sym same)

pub quit_off :
    (side : Color) {b : Bool} {old new : Scene} {r : Result
    (Result (Unit {0}) SideFault) AllocError} {e f : AllocError} → b ≡ false
    → Went (with_engine side (telling command.Quit)) old new r → r ≡ Err e
    → Went {X = Unit {0}} (quitting side b) old new (Err f)
quit_off side {b} {old} {new} {r} {e} {f} same a is =
    quitting_as side {b = false}
    (went_off _ (subst
    (λ (r : Result (Result (Unit {0}) SideFault) AllocError). Went
    (with_engine side (telling command.Quit)) old new r) is a)) (sym same)

-- the setups and turns from this state on
pub playing_as : (n : ℕ) {s t : MatchState} {old new : Scene} {r : Result Finished AllocError}
    → s ≡ t → Went (playing n s) old new r → Went (playing n t) old new r
playing_as n {s} {t} {old} {new} {r} same a = subst (λ s. Went (playing n s) old new r) same a

-- what a match leaves
pub left_with : {s : Scene} {lines written : List RecordLine} {log kept : List Booked}
    (how : MatchEnd) → written ≡ lines → kept ≡ log
    → Went {X = MatchDone} (value_part (record { written = lines; ending = how; log = log })) s s
    (Ok (record { written = written; ending = how; log = kept }))
left_with {s} {lines} {written} {log} {kept} how one two =
    went_to went_done
    (ap (λ (lines : List RecordLine). record { written = lines; ending = how; log = log })
    (sym one) ∙ ap
    (λ (log : List Booked). record { written = written; ending = how; log = log }) (sym two))
