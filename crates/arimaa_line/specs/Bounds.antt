-- Bounds of a position's rank, and when they are true.
use Rattle.std.specs.Prelude.{◌≡◌, ℕ, ◌<◌, ◌≤◌, min, max, Bool, true, false}
use Rattle.std.specs.Prelude.{List, Option, None, Some, IfSome}
use Rattle.arimaa_board.specs.declared.piece.Color.{Color}
use Rattle.arimaa_board.specs.declared.position.Position.{Position}
use Rattle.arimaa_model.specs.Wins.{wins}
use Rattle.arimaa_line.specs.declared.bounds.Bounds.{Bounds}

-- at least one bound stands, none is above 20, and `low` is below `high` where both stand
abbrev pub AreBounds : Option ℕ → Option ℕ → Type 0
AreBounds None None = ⊥
AreBounds None (Some high) = high ≤ 20
AreBounds (Some low) None = low ≤ 20
AreBounds (Some low) (Some high) = (low < high) × (high ≤ 20)

-- the bounds are those of this attacker, and right where these positions are barred
pub record AreTrueBounds (side : Color) (barred : List Position) (k : Bounds) : Type 0 where
  pub attacker : k.attacker ≡ side
  pub bounds : AreBounds k.low k.high
  pub low : IfSome k.low (λ n. wins side barred n k.position ≡ false)
  pub high : IfSome k.high (λ n. wins side barred n k.position ≡ true)

-- where the old `low` stands, the new one does too, and is no smaller
abbrev pub KeepsLow : Option ℕ → Option ℕ → Type 0
KeepsLow None new = Unit {0}
KeepsLow (Some old) None = ⊥
KeepsLow (Some old) (Some new) = old ≤ new

-- where the old `high` stands, the new one does too, and is no greater
abbrev pub KeepsHigh : Option ℕ → Option ℕ → Type 0
KeepsHigh None new = Unit {0}
KeepsHigh (Some old) None = ⊥
KeepsHigh (Some old) (Some new) = new ≤ old

-- wherever the bounds are right, the answer at this depth is that of the definition of a win
abbrev pub IsRightAnswer : Bounds → ℕ → Option Bool → Type 0
IsRightAnswer k depth answer = (side : Color) (barred : List Position)
    → AreTrueBounds side barred k
    → IfSome answer (λ verdict. verdict ≡ wins side barred depth k.position)

-- what a verdict at a depth says: a yes gives `high`, and a no gives `low`
abbrev pub verdict_bounds : Position → Color → ℕ → Bool → Bounds
verdict_bounds p attacker depth true =
    record { position = p; attacker = attacker; low = None; high = Some depth }
verdict_bounds p attacker depth false =
    record { position = p; attacker = attacker; low = Some depth; high = None }

-- no bound is lost or loosened
pub record KeepsBounds (old new : Bounds) : Type 0 where
  pub low : KeepsLow old.low new.low
  pub high : KeepsHigh old.high new.high

-- the larger one of two bounds of the kind `low`
abbrev pub later_bound : Option ℕ → Option ℕ → Option ℕ
later_bound None other = other
later_bound (Some m) None = Some m
later_bound (Some m) (Some n) = Some (max m n)

-- the smaller one of two bounds of the kind `high`
abbrev pub earlier_bound : Option ℕ → Option ℕ → Option ℕ
earlier_bound None other = other
earlier_bound (Some m) None = Some m
earlier_bound (Some m) (Some n) = Some (min m n)

-- of each kind the tighter bound
abbrev pub tightest : Bounds → Bounds → Bounds
tightest one other =
    record one { low = later_bound one.low other.low; high = earlier_bound one.high other.high }
