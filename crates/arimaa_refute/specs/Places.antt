-- The escapes of positions in a hash map.
use Rattle.std.specs.Prelude.{◌≡◌, ℕ, max, List, [], ◌∷◌, map, Option, None, Some, if◌then◌else◌}
use Rattle.std.specs.Option.{option_map}
use Rattle.std.specs.HashMap.{HashMap, get}
use Rattle.arimaa_board.specs.declared.position.Position.{Position}
use Rattle.arimaa_model.specs.Results.{same_position}
use Rattle.arimaa_history.specs.declared.key.Key.{Key}
use Rattle.arimaa_history.specs.Counts.{same_key}
use Rattle.arimaa_history.specs.Keys.{key_of, position_at}
use Rattle.arimaa_strategy.specs.Entries.{place_of}
use Rattle.arimaa_refute.specs.declared.escape.Escape.{Escape}
use Rattle.arimaa_refute.specs.declared.place.Place.{Place}
use Rattle.arimaa_refute.specs.Escapes.{EscapesHaveSteps, entry_of}

-- the greatest depth of the escapes of a position, or 0
abbrev pub depth_of : List Escape → Position → ℕ
depth_of [] q = 0
depth_of (e ∷ c) q = if same_position e.position q then max e.depth (depth_of c q) else depth_of c q

-- what is kept of a position with one more escape
abbrev pub place_with : Option Place → ℕ → ℕ → Place
place_with None number depth = record { first = number; depth = depth }
place_with (Some p) number depth = record { first = p.first; depth = max p.depth depth }

-- where the escapes of a position stand, if it has any
abbrev pub place_in : List Escape → Position → Option Place
place_in c q = option_map (λ k. record { first = k; depth = depth_of c q })
    (place_of (map entry_of c) q)

-- the map has at its key what is kept of each position, where its key gives the position back
abbrev pub ArePlaces : {S : Type 0} → List Escape → HashMap Key Place S → Type 0
ArePlaces c places =
    (q : Position) → position_at (key_of q) ≡ q → get same_key places (key_of q) ≡ place_in c q

-- what is kept beside the escapes: where those of each position stand
pub record AreKept {S : Type 0} (c : List Escape) (places : HashMap Key Place S) : Type 0 where
  pub steps : EscapesHaveSteps c
  pub placed : ArePlaces c places
