-- The position after both setups.
use Rattle.std.specs.Prelude.{◌≡◌, ℕ, ◌<◌, ◌≤◌, List, length, None, Some, All, fold}
use Rattle.arimaa_board.specs.declared.piece.Piece.{Piece}
use Rattle.arimaa_board.specs.declared.piece.Color.TheVariants.{Gold}
use Rattle.arimaa_board.specs.declared.position.Position.{Position}
use Rattle.arimaa_board.specs.Board.{Squares, at, empty_board, put}
use Rattle.arimaa_board.specs.Setup.{Lineup}

-- a board with a piece on its square
abbrev pub with_pair : Squares → (ℕ × Piece) → Squares
with_pair b pair = put b pair.0 (Some pair.1)

-- a board with each piece on its square
abbrev pub with_pairs : Squares → List (ℕ × Piece) → Squares
with_pairs b pairs = fold with_pair b pairs

-- the empty board with the pieces of both setups on their squares
unfoldable pub board_after_setups : Lineup → Lineup → Squares
board_after_setups gold silver = with_pairs (with_pairs empty_board gold.pairs) silver.pairs

-- the position after both setups: Gold is to move
abbrev pub position_after_setups : Lineup → Lineup → Position
position_after_setups gold silver = record { board = board_after_setups gold silver; side = Gold }

-- a board with each piece of both setups on its square, and with no piece between the home rows
pub record HoldsSetups (gold silver : Lineup) (b : Squares) : Type 0 where
  pub size : length b ≡ 64
  pub gold_stands : All (λ pair. at b pair.0 ≡ Some pair.1) gold.pairs
  pub silver_stands : All (λ pair. at b pair.0 ≡ Some pair.1) silver.pairs
  pub others : (s : ℕ) → 16 ≤ s → s < 48 → at b s ≡ None
