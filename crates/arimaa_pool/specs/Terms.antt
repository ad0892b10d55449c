-- On what terms questions are asked.
use Rattle.std.specs.Prelude.{ℕ, List}
use Rattle.arimaa_board.specs.declared.piece.Color.{Color}
use Rattle.arimaa_board.specs.declared.position.Position.{Position}

-- the attacker, the positions that may not be entered, the questions that may be opened for one,
-- and the places of each region
pub record Terms : Type 0 where
  pub attacker : Color
  pub barred : List Position
  pub budget : ℕ
  pub room : ℕ
