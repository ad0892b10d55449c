-- Why an escape is faulty: the first reason that applies.
use Rattle.std.specs.Prelude.{◌≡◌, ℕ, ◌-◌, List, [], ◌∷◌, ◌++◌, map, Option, None, Some, is_some, if◌then◌else◌}
use Rattle.arimaa_board.specs.declared.piece.Color.{Color}
use Rattle.arimaa_board.specs.Board.{same_color}
use Rattle.arimaa_board.specs.declared.position.Position.{Position}
use Rattle.arimaa_board.specs.declared.ending.Ending.{Ending}
use Rattle.arimaa_model.specs.DecidedPositions.{decided}
use Rattle.arimaa_model.specs.Results.{stands_in, next}
use Rattle.arimaa_strategy.specs.Faults.{led_to}
use Rattle.arimaa_refute.specs.declared.escape.Escape.{Escape}
use Rattle.arimaa_refute.specs.declared.verify_answer.Flaw.{Flaw}
use Rattle.arimaa_refute.specs.declared.verify_answer.Flaw.TheVariants as flaw
use Rattle.arimaa_refute.specs.Escapes.{entry_of, are_safe}

-- the positions of escapes
abbrev pub positions_of : List Escape → List Position
positions_of c = map (λ e. e.position) c

-- the flaw of an escape that leads to r, where k turns are then left, by the ending of r
abbrev pub flaw_by : Color → List Position → List Escape → ℕ → Position → Option Ending
    → Option Flaw
flaw_by a barred c k r (Some e) = if same_color e.winner a then Some flaw.Lost else None
flaw_by a barred c k r None =
    if are_safe a barred c k (next barred r) then None else Some flaw.Reply

-- the flaw of an undecided escape, by where it leads
abbrev pub flaw_after : Color → List Position → List Escape → ℕ → Option Position → Option Flaw
flaw_after a barred c k None = Some flaw.Turn
flaw_after a barred c k (Some r) = flaw_by a barred c k r (decided r)

-- the flaw of an escape of the list c behind earlier ones
unfoldable pub flaw_of : Color → List Position → List Escape → List Escape → Escape → Option Flaw
flaw_of a barred c earlier e =
    if stands_in (positions_of earlier) e.position then Some flaw.Twice
    else if is_some (decided e.position) then Some flaw.Decided
    else flaw_after a barred c (e.depth - 1) (led_to barred (entry_of e))

-- each escape of a list that stands behind earlier ones has no flaw
abbrev pub AreFlawless : Color → List Position → List Escape → List Escape → List Escape → Type 0
AreFlawless a barred c earlier [] = Unit {0}
AreFlawless a barred c earlier (e ∷ es) =
    (flaw_of a barred c earlier e ≡ None) × AreFlawless a barred c (earlier ++ e ∷ []) es
