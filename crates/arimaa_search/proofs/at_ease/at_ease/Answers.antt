use Rattle.std.proofs.Common.{ℕ}
use Rattle.std.specs.Prelude.{◌||◌, not}
use Rattle.arimaa_board.proofs.Lemmas.MaskLaws.{and_mask, or_mask, not_mask}
use Rattle.arimaa_board.specs.Board.{at, holds_color}
use Rattle.arimaa_board.specs.Piece.{other_color}
use Rattle.arimaa_search.specs.AtEase.{is_beside_color}
use Rattle.arimaa_search.proofs.at_ease.at_ease.Goals as goal

pub returns : goal.returns
returns c =
    let b = c.args.board.now in
    let side = c.args.side in
    let own = λ (n : ℕ). holds_color side (at b n) in
    let enemy = λ (n : ℕ). holds_color (other_color side) (at b n) in
    let unbeset = not_mask (is_beside_color b (other_color side)) c.neighbours-beset.result c.neighbours-beset.type_inv (c.neighbours-beset.ensures enemy (rw c.other.ensures at c.of.ensures)) in
    let eased = or_mask (is_beside_color b side) (λ n. not (is_beside_color b (other_color side) n)) _ _ (c.neighbours.ensures own c.of-own.ensures) unbeset in
    and_mask own (λ n. is_beside_color b side n || not (is_beside_color b (other_color side) n)) _ _ c.of-own.ensures eased
