-- What a session shows.
use Rattle.std.specs.Prelude.{Bool, List, ℕ}

-- the port, the line that was heard last, and whether a fault has broken the session
pub record Talk (P : Type 0) : Type 0 where
  pub port : P
  pub line : List ℕ
  pub broken : Bool
