-- What the checker computes, where lists have so much room.
use Rattle.std.specs.Prelude.{ℕ, ◌+◌, ◌-◌, ◌==◌, List, [], ◌∷◌, ◌++◌, length, nat_lt, Option, None, Some, is_some, if◌then◌else◌}
use Rattle.std.specs.List.{list_all}
use Rattle.arimaa_board.specs.declared.piece.Color.{Color}
use Rattle.arimaa_board.specs.Board.{same_color}
use Rattle.arimaa_board.specs.declared.position.Position.{Position}
use Rattle.arimaa_board.specs.declared.ending.Ending.{Ending}
use Rattle.arimaa_model.specs.DecidedPositions.{decided}
use Rattle.arimaa_model.specs.Results.{stands_in, next}
use Rattle.arimaa_strategy.specs.Faults.{led_to}
use Rattle.arimaa_refute.specs.declared.escape.Escape.{Escape}
use Rattle.arimaa_refute.specs.declared.verify_answer.Flaw.TheVariants as flaw
use Rattle.arimaa_refute.specs.declared.verify_answer.Verified.{Verified}
use Rattle.arimaa_refute.specs.declared.verify_answer.Verified.TheVariants as verified
use Rattle.arimaa_refute.specs.declared.look.Look.{Look}
use Rattle.arimaa_refute.specs.declared.look.Look.TheVariants as looks
use Rattle.arimaa_refute.specs.declared.look.Finding.{Finding}
use Rattle.arimaa_refute.specs.declared.look.Finding.TheVariants as finds
use Rattle.arimaa_refute.specs.Escapes.{entry_of, is_safe}
use Rattle.arimaa_refute.specs.Flaws.{positions_of}

-- the look through replies, after which k turns are left
abbrev pub look_through : ℕ → Color → List Position → List Escape → ℕ → List Position → Look
look_through room a barred c k qs =
    if nat_lt room (length qs) then looks.Crowded
    else if list_all (is_safe a barred c k) qs then looks.Held
    else looks.Open

-- the look at a position with the attacker to move, where k turns are left, by its ending
abbrev pub look_by : ℕ → Color → List Position → List Escape → ℕ → Position → Option Ending → Look
look_by room a barred c k r (Some e) =
    if same_color e.winner a then looks.Lost else looks.Held
look_by room a barred c k r None =
    if k == 0 then looks.Held else look_through room a barred c (k - 1) (next barred r)

-- the look at a position with the attacker to move
unfoldable pub look_at : ℕ → Color → List Position → List Escape → ℕ → Position → Look
look_at room a barred c k r = look_by room a barred c k r (decided r)

-- what is found of an escape that leads to r, by the look at r
abbrev pub finding_of : Position → Look → Finding
finding_of r looks.Held = finds.Good
finding_of r looks.Lost = finds.Faulty flaw.Lost
finding_of r looks.Open = finds.Faulty flaw.Reply
finding_of r looks.Crowded = finds.Crowded r

-- what is found of an undecided escape, by where it leads
abbrev pub finding_after : ℕ → Color → List Position → List Escape → ℕ → Option Position → Finding
finding_after room a barred c k None = finds.Faulty flaw.Turn
finding_after room a barred c k (Some r) = finding_of r (look_at room a barred c k r)

-- what is found of an escape behind earlier ones
unfoldable pub finding_at : ℕ → Color → List Position → List Escape → List Escape → Escape
    → Finding
finding_at room a barred c earlier e =
    if stands_in (positions_of earlier) e.position then finds.Faulty flaw.Twice
    else if is_some (decided e.position) then finds.Faulty flaw.Decided
    else finding_after room a barred c (e.depth - 1) (led_to barred (entry_of e))

-- the answer that a finding at an escape of this number makes, or else a later one
abbrev pub answer_or : ℕ → Finding → Option Verified → Option Verified
answer_or number finds.Good later = later
answer_or number (finds.Faulty why) later = Some (verified.Refused number why)
answer_or number (finds.Crowded q) later = Some (verified.Crowded q)

-- the answer at the first escape that isn't good, among those from this number on
abbrev pub first_answer : ℕ → Color → List Position → List Escape → ℕ → List Escape → List Escape
    → Option Verified
first_answer room a barred c number earlier [] = None
first_answer room a barred c number earlier (e ∷ es) =
    answer_or number (finding_at room a barred c earlier e)
    (first_answer room a barred c (number + 1) (earlier ++ e ∷ []) es)

-- the look at the root, where n turns are asked about
abbrev pub root_look : ℕ → Color → List Position → ℕ → List Escape → Position → Look
root_look room a barred n c p =
    if same_color p.side a then look_at room a barred c n p
    else if is_safe a barred c n p then looks.Held
    else looks.Open

-- the answer by the look at the root
abbrev pub root_answer : Position → Look → Verified
root_answer p looks.Held = verified.Accepted
root_answer p looks.Lost = verified.Refused 0 flaw.Root
root_answer p looks.Open = verified.Refused 0 flaw.Root
root_answer p looks.Crowded = verified.Crowded p

-- the answer at an escape, or else that at the root
abbrev pub answer_with : Verified → Option Verified → Verified
answer_with root None = root
answer_with root (Some answer) = answer

-- the answer of the checker
unfoldable pub verified_of : ℕ → Color → List Position → ℕ → List Escape → Position → Verified
verified_of room a barred n c p =
    answer_with (root_answer p (root_look room a barred n c p))
    (first_answer room a barred c 1 [] c)
