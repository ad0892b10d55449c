-- What a source in memory holds.
use Rattle.std.specs.Prelude.{ℕ, List, length, min}
use Rattle.arimaa_outside.specs.Calls.{Tally}

-- the bytes that it has left, the most that one call gives, and its calls
pub record Reading : Type 0 where
  pub left : List ℕ
  pub piece : ℕ
  pub calls : Tally

-- how many bytes a call gives where the buffer has this room
abbrev pub read_len : Reading → ℕ → ℕ
read_len source room = min (min source.piece room) (length source.left)
