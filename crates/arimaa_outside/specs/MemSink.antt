-- What a sink in memory holds.
use Rattle.std.specs.Prelude.{ℕ, List}
use Rattle.arimaa_outside.specs.Calls.{Tally}

-- the bytes that it was given, the most that one call takes, and its calls
pub record Writing : Type 0 where
  pub written : List ℕ
  pub piece : ℕ
  pub calls : Tally
