-- Lists of entries.
use Rattle.std.specs.Prelude.{ℕ, suc, ◌<◌, List, [], ◌∷◌, length, map, Option, None, Some, if◌then◌else◌}
use Rattle.std.specs.List.{AllByRecursion}
use Rattle.std.specs.Option.{option_map}
use Rattle.arimaa_board.specs.declared.position.Position.{Position}
use Rattle.arimaa_model.specs.Results.{same_position}
use Rattle.arimaa_model.specs.Strategies.{Planned}
use Rattle.arimaa_forced.specs.declared.entry.Entry.{Entry}
use Rattle.arimaa_forced.specs.Entries.{planned_of}

-- the turn of each entry has a step
abbrev pub HaveSteps : List Entry → Type 0
HaveSteps es = AllByRecursion (λ e. 0 < length e.turn) es

-- the entries without their removal marks
abbrev pub plan_of : List Entry → List Planned
plan_of es = map planned_of es

-- the number of the first entry of a position, counted from 0
abbrev pub place_of : List Entry → Position → Option ℕ
place_of [] p = None
place_of (e ∷ es) p =
    if same_position e.position p then Some 0 else option_map (λ k. suc k) (place_of es p)
