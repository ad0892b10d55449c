-- Whether two positions are the same.
use Rattle.std.specs.Prelude.{◌≡◌, Bool, ◌&&◌}
use Rattle.std.specs.Bool.{Decides}
use Rattle.std.proofs.Common.{ap}
use Rattle.std.proofs.lemmas.Bool.Decides.{Decides-and, Decides-like}
use Rattle.arimaa_board.specs.declared.position.Position.{Position}
use Rattle.arimaa_board.specs.Board.{same_color}
use Rattle.arimaa_board.specs.Words.{same_squares}
use Rattle.arimaa_board.specs.SameBoards.{same_squares-Decides}
use Rattle.arimaa_board.specs.ColorLaws.{same_color-Decides}

-- whether two positions have the same board and the same side to move
abbrev pub same_position : Position → Position → Bool
same_position p q = same_squares p.board q.board && same_color p.side q.side

-- the test tells whether two positions are one
pub same_position-Decides : (p q : Position) → Decides (same_position p q) (p ≡ q)
same_position-Decides p q =
    Decides-like (same_position p q)
    (λ e i. record { board = e.0 i; side = e.1 i })
    (λ e. (ap (λ (x : Position). x.board) e, ap (λ (x : Position). x.side) e))
    (Decides-and _ _ (same_squares-Decides p.board q.board) (same_color-Decides p.side q.side))
