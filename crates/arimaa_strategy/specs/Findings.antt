-- What the checker computes, where lists have so much room.
use Rattle.std.specs.Prelude.{ℕ, suc, ◌+◌, ◌==◌, max, List, [], ◌∷◌, ◌++◌, length, nat_le, nat_lt, Option, None, Some, is_some, if◌then◌else◌}
use Rattle.std.specs.Option.{option_map}
use Rattle.arimaa_board.specs.declared.piece.Color.{Color}
use Rattle.arimaa_board.specs.Board.{same_color}
use Rattle.arimaa_board.specs.declared.position.Position.{Position}
use Rattle.arimaa_board.specs.declared.ending.Ending.{Ending}
use Rattle.arimaa_model.specs.DecidedPositions.{decided}
use Rattle.arimaa_model.specs.Results.{next}
use Rattle.arimaa_model.specs.Strategies.{Planned, find_entry}
use Rattle.arimaa_forced.specs.declared.entry.Entry.{Entry}
use Rattle.arimaa_strategy.specs.declared.check_answer.Why.TheVariants as why
use Rattle.arimaa_strategy.specs.declared.check_answer.Checked.{Checked}
use Rattle.arimaa_strategy.specs.declared.check_answer.Checked.TheVariants as checked
use Rattle.arimaa_strategy.specs.declared.look.Look.{Look}
use Rattle.arimaa_strategy.specs.declared.look.Look.TheVariants as looks
use Rattle.arimaa_strategy.specs.declared.look.Finding.{Finding}
use Rattle.arimaa_strategy.specs.declared.look.Finding.TheVariants as finds
use Rattle.arimaa_strategy.specs.Entries.{plan_of}
use Rattle.arimaa_strategy.specs.Faults.{led_to}

-- the rank of a position with the attacker to move, where it is covered, by its ending
abbrev pub covered_by : Color → List Planned → Position → Option Ending → Option ℕ
covered_by a s p (Some e) = if same_color e.winner a then Some 0 else None
covered_by a s p None = option_map (λ e. e.rank) (find_entry s p)

-- the rank of a position with the attacker to move, where it is covered
unfoldable pub covered_rank : Color → List Planned → Position → Option ℕ
covered_rank a s p = covered_by a s p (decided p)

-- the larger of a number that is one more than a rank, and of another, where there are both
abbrev pub raised : Option ℕ → Option ℕ → Option ℕ
raised None top = None
raised (Some r) None = None
raised (Some r) (Some top) = Some (max (suc r) top)

-- one more than the largest rank of replies, where each is covered
abbrev pub replies_rank : Color → List Planned → List Position → Option ℕ
replies_rank a s [] = Some 0
replies_rank a s (q ∷ qs) = raised (covered_rank a s q) (replies_rank a s qs)

-- a look that found this rank, or a reply that isn't covered
abbrev pub look_of : Option ℕ → Look
look_of None = looks.Open
look_of (Some rank) = looks.Rank rank

-- a fact of the rank, where a look found one
abbrev pub IfRank : Look → (ℕ → Type 0) → Type 0
IfRank (looks.Rank rank) P = P rank
IfRank looks.Lost P = Unit {0}
IfRank looks.Open P = Unit {0}
IfRank looks.Crowded P = Unit {0}

-- the look at a position with the defender to move, by its ending
abbrev pub look_by : ℕ → Color → List Position → List Planned → Position → Option Ending → Look
look_by room a barred s p (Some e) = if same_color e.winner a then looks.Rank 0 else looks.Lost
look_by room a barred s p None =
    if nat_lt room (length (next barred p)) then looks.Crowded
    else look_of (replies_rank a s (next barred p))

-- the look at a position with the defender to move
unfoldable pub look_at : ℕ → Color → List Position → List Planned → Position → Look
look_at room a barred s p = look_by room a barred s p (decided p)

-- what is found of an entry of this rank that leads to q, by the look at q
abbrev pub finding_of : ℕ → Position → Look → Finding
finding_of rank q (looks.Rank r) = if rank == suc r then finds.Good else finds.Faulty why.Rank
finding_of rank q looks.Lost = finds.Faulty why.Lost
finding_of rank q looks.Open = finds.Faulty why.Reply
finding_of rank q looks.Crowded = finds.Crowded q

-- what is found of an undecided entry, by where it leads
abbrev pub finding_after : ℕ → Color → List Position → List Planned → ℕ → Option Position → Finding
finding_after room a barred s rank None = finds.Faulty why.Turn
finding_after room a barred s rank (Some q) = finding_of rank q (look_at room a barred s q)

-- what is found of an entry behind earlier ones
unfoldable pub finding_at : ℕ → Color → List Position → List Entry → List Entry → Entry → Finding
finding_at room a barred s earlier e =
    if is_some (find_entry (plan_of earlier) e.position) then finds.Faulty why.Twice
    else if is_some (decided e.position) then finds.Faulty why.Decided
    else finding_after room a barred (plan_of s) e.rank (led_to barred e)

-- the answer that a finding at an entry of this number makes, or else a later one
abbrev pub answer_or : ℕ → Finding → Option Checked → Option Checked
answer_or number finds.Good later = later
answer_or number (finds.Faulty why) later = Some (checked.Refused number why)
answer_or number (finds.Crowded q) later = Some (checked.Crowded q)

-- the answer at the first entry that isn't good, among those from this number on
abbrev pub first_answer : ℕ → Color → List Position → List Entry → ℕ → List Entry → List Entry
    → Option Checked
first_answer room a barred s number earlier [] = None
first_answer room a barred s number earlier (e ∷ es) =
    answer_or number (finding_at room a barred s earlier e)
    (first_answer room a barred s (number + 1) (earlier ++ e ∷ []) es)

-- the look at the root
abbrev pub root_look : ℕ → Color → List Position → List Planned → Position → Look
root_look room a barred s p =
    if same_color p.side a then look_of (covered_rank a s p) else look_at room a barred s p

-- the answer by the look at the root, where n turns are asked about
abbrev pub root_answer : ℕ → Position → Look → Checked
root_answer n p (looks.Rank rank) =
    if nat_le rank n then checked.Accepted rank else checked.Refused 0 why.Deep
root_answer n p looks.Lost = checked.Refused 0 why.Root
root_answer n p looks.Open = checked.Refused 0 why.Root
root_answer n p looks.Crowded = checked.Crowded p

-- the answer at an entry, or else that at the root
abbrev pub answer_with : Checked → Option Checked → Checked
answer_with root None = root
answer_with root (Some answer) = answer

-- the answer of the checker
unfoldable pub checked_of : ℕ → Color → List Position → ℕ → List Entry → Position → Checked
checked_of room a barred n s p =
    answer_with (root_answer n p (root_look room a barred (plan_of s) p))
    (first_answer room a barred s 1 [] s)
