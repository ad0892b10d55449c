-- The answers to a placing.
use Rattle.std.specs.Prelude.{ℕ, Bool, true, false, ⊤}
use Rattle.arimaa_region.specs.declared.placement.Placed.{Placed}
use Rattle.arimaa_region.specs.declared.placement.Placed.TheVariants.{New, There, Full}

-- the value was there already
abbrev pub is_there : Placed → Bool
is_there (New n) = false
is_there (There n) = true
is_there Full = false

-- there was no room for the value
abbrev pub is_full : Placed → Bool
is_full (New n) = false
is_full (There n) = false
is_full Full = true

-- a fact of the place, where the value stood there before
abbrev pub IfThere : Placed → (ℕ → Type 0) → Type 0
IfThere (New n) P = ⊤
IfThere (There n) P = P n
IfThere Full P = ⊤

-- a fact of the place, where the value is new
abbrev pub IfNew : Placed → (ℕ → Type 0) → Type 0
IfNew (New n) P = P n
IfNew (There n) P = ⊤
IfNew Full P = ⊤
