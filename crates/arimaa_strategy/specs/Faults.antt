-- Why an entry, or the root, is faulty: the first reason that applies.
use Rattle.std.specs.Prelude.{◌≡◌, ℕ, suc, ◌==◌, not, List, [], ◌∷◌, ◌++◌, map, nat_le, Option, None, Some, is_some, if◌then◌else◌}
use Rattle.std.specs.List.{list_all}
use Rattle.arimaa_board.specs.declared.piece.Color.{Color}
use Rattle.arimaa_board.specs.Board.{same_color}
use Rattle.arimaa_board.specs.declared.position.Position.{Position}
use Rattle.arimaa_board.specs.declared.ending.Ending.{Ending}
use Rattle.arimaa_model.specs.DecidedPositions.{decided}
use Rattle.arimaa_model.specs.Results.{stands_in, next}
use Rattle.arimaa_model.specs.Ranks.{above}
use Rattle.arimaa_model.specs.Strategies.{Planned, result_at, find_entry}
use Rattle.arimaa_forced.specs.declared.entry.Entry.{Entry}
use Rattle.arimaa_forced.specs.Acceptance.{s_rank, is_covered, is_ready, root_rank}
use Rattle.arimaa_forced.specs.Entries.{planned_of, has_right_marks}
use Rattle.arimaa_strategy.specs.declared.check_answer.Why.{Why}
use Rattle.arimaa_strategy.specs.declared.check_answer.Why.TheVariants as why
use Rattle.arimaa_strategy.specs.Entries.{plan_of}

-- a position, if it is a next position of p
abbrev pub among_next : List Position → Position → Option Position → Option Position
among_next barred p None = None
among_next barred p (Some r) = if stands_in (next barred p) r then Some r else None

-- where an entry leads: its turn is one of its position, with the right marks, and does not lead to
-- a barred position
abbrev pub led_to : List Position → Entry → Option Position
led_to barred e =
    if has_right_marks e then among_next barred e.position (result_at (planned_of e)) else None

-- the fault of an entry's rank, where it leads to a position of this rank
abbrev pub rank_fault : ℕ → ℕ → Option Why
rank_fault rank q = if rank == suc q then None else Some why.Rank

-- the fault of an entry that leads to r, by the ending of r
abbrev pub fault_by : Color → List Position → List Planned → ℕ → Position → Option Ending
    → Option Why
fault_by a barred s rank r (Some e) =
    if same_color e.winner a then rank_fault rank 0 else Some why.Lost
fault_by a barred s rank r None =
    if list_all (is_covered a s) (next barred r)
    then rank_fault rank (above (map (s_rank a s) (next barred r)))
    else Some why.Reply

-- the fault of an undecided entry, by where it leads
abbrev pub fault_after : Color → List Position → List Planned → ℕ → Option Position → Option Why
fault_after a barred s rank None = Some why.Turn
fault_after a barred s rank (Some r) = fault_by a barred s rank r (decided r)

-- the fault of an entry of the strategy s behind earlier ones
unfoldable pub fault_of : Color → List Position → List Entry → List Entry → Entry → Option Why
fault_of a barred s earlier e =
    if is_some (find_entry (plan_of earlier) e.position) then Some why.Twice
    else if is_some (decided e.position) then Some why.Decided
    else fault_after a barred (plan_of s) e.rank (led_to barred e)

-- the fault of the root, where n turns are asked about
unfoldable pub root_fault : Color → List Position → ℕ → List Entry → Position → Option Why
root_fault a barred n s p =
    if not (is_ready a barred (plan_of s) p) then Some why.Root
    else if not (nat_le (root_rank a barred (plan_of s) p) n) then Some why.Deep
    else None

-- each entry of a list that stands behind earlier ones has no fault
abbrev pub AreFaultless : Color → List Position → List Entry → List Entry → List Entry → Type 0
AreFaultless a barred s earlier [] = Unit {0}
AreFaultless a barred s earlier (e ∷ es) =
    (fault_of a barred s earlier e ≡ None) × AreFaultless a barred s (earlier ++ e ∷ []) es
