-- What a clock in memory shows.
use Rattle.std.specs.Prelude.{ℕ, ◌+◌, ◌-◌, ◌^◌, ◌++◌, ◌==◌, [], ◌∷◌, if◌then◌else◌, List, Option, None, Some, min, replicate}

-- the moments that it has left, those of its list that it gave, how often it repeated the last one,
-- and that one
pub record Ticking : Type 0 where
  pub left : List ℕ
  pub gave : List ℕ
  pub repeats : ℕ
  pub last : ℕ

-- the clock once it gave its next moment, with the moments that it had left
abbrev pub after_tick : Ticking → List ℕ → Ticking
after_tick clock [] = record clock { repeats = min (clock.repeats + 1) (2 ^ 64 - 1) }
after_tick clock (next ∷ later) = record clock
    { left = later; gave = clock.gave ++ next ∷ []; last = next }

-- the clock once it gave its next moment: the first that it has left, or its last again where none
-- is left
abbrev pub after_moment : Ticking → Ticking
after_moment clock = after_tick clock clock.left

-- the moments that it gave, told until the count of the repeats is at its end
abbrev pub moments_given : Ticking → Option (List ℕ)
moments_given clock = if clock.repeats == 2 ^ 64 - 1 then None else Some
    (clock.gave ++ replicate clock.repeats clock.last)
