-- Pieces that are free to move, however strong they are.
use Rattle.std.specs.Prelude.{ℕ, Bool, ◌&&◌, ◌||◌, not, is_some}
use Rattle.arimaa_board.specs.declared.board.Board.{Board}
use Rattle.arimaa_board.specs.declared.piece.Color.{Color}
use Rattle.arimaa_board.specs.declared.piece.Kind.TheVariants.{Rabbit}
use Rattle.arimaa_board.specs.declared.square.Dir.{Dir}
use Rattle.arimaa_board.specs.Board.{at, holds, holds_color}
use Rattle.arimaa_board.specs.Masks.{is_beside, passes}
use Rattle.arimaa_board.specs.Piece.{other_color, piece_of}
use Rattle.arimaa_board.specs.Square.{next_square}
use Rattle.arimaa_model.specs.Moves.{is_back}

-- whether a piece of this colour is beside n
abbrev pub is_beside_color : Board → Color → ℕ → Bool
is_beside_color b c n = is_beside (λ m. holds_color c (at b m)) n

-- whether a piece of the colour stands on n, with a friend beside it or without an enemy
abbrev pub is_at_ease : Board → Color → ℕ → Bool
is_at_ease b c n = holds_color c (at b n)
    && (is_beside_color b c n || not (is_beside_color b (other_color c) n))

-- whether such a piece goes to an empty square in a direction, a rabbit not backward
abbrev pub goes_at_ease : Board → Color → Dir → ℕ → Bool
goes_at_ease b c d n =
    (is_at_ease b c n && not (is_back c d && holds (piece_of c Rabbit) (at b n)))
    && passes (λ m. not (is_some (at b m))) (next_square n d)
