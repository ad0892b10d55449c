-- The first entries of positions in a hash map.
use Rattle.std.specs.Prelude.{◌≡◌, Bool, ℕ, List}
use Rattle.std.specs.HashMap.{HashMap, get}
use Rattle.arimaa_board.specs.declared.position.Position.{Position}
use Rattle.arimaa_forced.specs.declared.entry.Entry.{Entry}
use Rattle.arimaa_history.specs.declared.key.Key.{Key}
use Rattle.arimaa_history.specs.Counts.{same_key}
use Rattle.arimaa_history.specs.Keys.{key_of, position_at}
use Rattle.arimaa_strategy.specs.Entries.{place_of, HaveSteps}

-- the map has at its key the first entry of a position, for each position that its key gives back
abbrev pub ArePlaces : {S : Type 0} → List Entry → HashMap Key ℕ S → Type 0
ArePlaces es places =
    (q : Position) → position_at (key_of q) ≡ q → get same_key places (key_of q) ≡ place_of es q

-- what is kept beside the entries of a strategy: where the first entry of each position stands
pub record AreKept {S : Type 0} (es : List Entry) (places : HashMap Key ℕ S) : Type 0 where
  pub steps : HaveSteps es
  pub placed : ArePlaces es places
