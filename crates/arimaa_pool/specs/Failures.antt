-- Why no strategy was found.
use Rattle.std.specs.Prelude.{ℕ}
use Rattle.arimaa_board.specs.declared.position.Position.{Position}
use Rattle.arimaa_pool.specs.declared.failure.Failure.{Failure}
use Rattle.arimaa_pool.specs.declared.failure.Failure.TheVariants.{Stopped, Memory}
use Rattle.arimaa_pool.specs.Terms.{Terms}
use Rattle.arimaa_pool.specs.Stops.{IsStop}

-- a question of this kind stopped, or memory ran out
abbrev pub IsFailure : Terms → (Position → ℕ → Type 0) → Failure → Type 0
IsFailure t Kind (Stopped s) = IsStop t Kind s
IsFailure t Kind Memory = Unit {0}
