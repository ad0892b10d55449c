-- A match between two programs: its sessions are opened, or one of them is not.
use Rattle.std.proofs.Common.{◌≡◌, false, Result, Ok, Err}
use Rattle.std.specs.declared.alloc.AllocError.{AllocError}
use Rattle.arimaa_board.specs.declared.piece.Color.TheVariants.{Gold, Silver}
use Rattle.arimaa_time.specs.declared.control.Control.{Control}
use Rattle.arimaa_engine.specs.declared.fault.EngineFault.{EngineFault}
use Rattle.arimaa_engine.specs.declared.fault.EngineFault.TheVariants as fault
use Rattle.arimaa_engine.specs.Session.{opening}
use Rattle.arimaa_match.specs.declared.ending.MatchDone.{MatchDone}
use Rattle.arimaa_match.specs.Match.{match_of, quitting}
use Rattle.arimaa_match.specs.Parts.{Scene, Went, value_part, outcome_of_call, with_engine}
use Rattle.arimaa_match.specs.Programs.{after_gold, after_silver, match_of_programs, opening_silver, unbegun, unopened}
use Rattle.arimaa_match.proofs.Parts.{went_done, went_off, went_on}
use Rattle.arimaa_match.proofs.Turns.{went_to}

inside : {A B : MatchDone} → ◌≡◌ {A = Result MatchDone AllocError} (Ok A) (Ok B) → A ≡ B
inside {A} {B} same = cc

-- Gold's session was not opened
pub gold_unopened : (control : Control) (why : EngineFault) {old new : Scene}
    → Went (with_engine Gold (opening control)) old new (outcome_of_call {X = Unit {0}} Gold (Err why))
    → Went (match_of_programs control) old new (unopened Gold why)
unfolding match_of_programs
gold_unopened control fault.Failed a = went_on (after_gold control) a went_done
gold_unopened control fault.Ended a = went_on (after_gold control) a went_done
gold_unopened control fault.Long a = went_on (after_gold control) a went_done
gold_unopened control fault.Silent a = went_on (after_gold control) a went_done
gold_unopened control (fault.Version text) a = went_on (after_gold control) a went_done
gold_unopened control fault.Memory a = went_off (after_gold control) a

-- Gold's session was opened, and Silver's was to be
pub gold_opened : (control : Control) {old mid new : Scene} {r : Result MatchDone AllocError}
    → Went (with_engine Gold (opening control)) old mid (Ok (Ok tt))
    → Went (opening_silver control) mid new r → Went (match_of_programs control) old new r
unfolding match_of_programs
gold_opened control a b = went_on (after_gold control) a b

-- Silver's was opened too
pub silver_opened : (control : Control) {old mid new : Scene} {r : Result MatchDone AllocError}
    → Went (with_engine Silver (opening control)) old mid (Ok (Ok tt))
    → Went (match_of control) mid new r → Went (opening_silver control) old new r
silver_opened control a b = went_on (after_silver control) a b

-- the memory ran out while Silver's was opened
pub silver_off : (control : Control) (why : EngineFault) {old mid : Scene} {e f : AllocError}
    → unopened Silver why ≡ Err e
    → Went (with_engine Silver (opening control)) old mid (outcome_of_call {X = Unit {0}} Silver (Err why))
    → Went {X = MatchDone} (opening_silver control) old mid (Err f)
silver_off control fault.Memory is a = went_off (after_silver control) a
silver_off control fault.Failed is a = absurd (cc)
silver_off control fault.Ended is a = absurd (cc)
silver_off control fault.Long is a = absurd (cc)
silver_off control fault.Silent is a = absurd (cc)
silver_off control (fault.Version text) is a = absurd (cc)

quit_after : (control : Control) (why : EngineFault) {old mid new : Scene}
    → Went (with_engine Silver (opening control)) old mid
    (Ok (Err (record { side = Silver; fault = why })))
    → Went (quitting Gold false) mid new (Ok tt)
    → Went (opening_silver control) old new (Ok (unbegun Silver why))
quit_after control why a b =
    went_on (after_silver control) a (went_on (λ _. value_part (unbegun Silver why)) b went_done)

-- Silver's was not opened, and Gold's was ended
pub silver_unopened : (control : Control) (why : EngineFault) {old mid new : Scene} (m : MatchDone)
    → unopened Silver why ≡ Ok m
    → Went (with_engine Silver (opening control)) old mid (outcome_of_call {X = Unit {0}} Silver (Err why))
    → Went (quitting Gold false) mid new (Ok tt) → Went (opening_silver control) old new (Ok m)
silver_unopened control fault.Memory m is a b = absurd (cc)
silver_unopened control fault.Failed m is a b =
    went_to (quit_after control fault.Failed a b) (inside is)
silver_unopened control fault.Ended m is a b =
    went_to (quit_after control fault.Ended a b) (inside is)
silver_unopened control fault.Long m is a b =
    went_to (quit_after control fault.Long a b) (inside is)
silver_unopened control fault.Silent m is a b =
    went_to (quit_after control fault.Silent a b) (inside is)
silver_unopened control (fault.Version text) m is a b =
    went_to (quit_after control (fault.Version text) a b) (inside is)

quit_off_after : (control : Control) (why : EngineFault) {old mid new : Scene} {e f : AllocError}
    → Went (with_engine Silver (opening control)) old mid
    (Ok (Err (record { side = Silver; fault = why })))
    → Went {X = Unit {0}} (quitting Gold false) mid new (Err e)
    → Went {X = MatchDone} (opening_silver control) old new (Err f)
quit_off_after control why a b =
    went_on (after_silver control) a (went_off (λ _. value_part (unbegun Silver why)) b)

-- Silver's was not opened, and the memory ran out while Gold's was ended
pub silver_quit_off : (control : Control)
    (why : EngineFault) {old mid new : Scene} {e f : AllocError} (m : MatchDone)
    → unopened Silver why ≡ Ok m
    → Went (with_engine Silver (opening control)) old mid (outcome_of_call {X = Unit {0}} Silver (Err why))
    → Went {X = Unit {0}} (quitting Gold false) mid new (Err e)
    → Went {X = MatchDone} (opening_silver control) old new (Err f)
silver_quit_off control fault.Memory m is a b = absurd (cc)
silver_quit_off control fault.Failed m is a b = quit_off_after control fault.Failed a b
silver_quit_off control fault.Ended m is a b = quit_off_after control fault.Ended a b
silver_quit_off control fault.Long m is a b = quit_off_after control fault.Long a b
silver_quit_off control fault.Silent m is a b = quit_off_after control fault.Silent a b
silver_quit_off control (fault.Version text) m is a b =
    quit_off_after control (fault.Version text) a b
