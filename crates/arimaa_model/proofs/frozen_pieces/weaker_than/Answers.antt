use Rattle.std.proofs.Common.{◌&&◌, Some}
use Rattle.arimaa_board.proofs.Lemmas.MaskLaws.{and_mask, like_mask}
use Rattle.arimaa_board.specs.Board.{at, holds_color}
use Rattle.arimaa_board.specs.Masks.{holds_below}
use Rattle.arimaa_board.specs.Piece.{other_color}
use Rattle.arimaa_model.specs.Frozen.{beats, passes_at}
use Rattle.arimaa_model.proofs.BeatenMasks.{weaker_here}
use Rattle.arimaa_model.proofs.frozen_pieces.weaker_than.Goals as goal

pub returns : goal.returns
returns c =
    let b = c.args.board.now in
    let p = c.args.piece in
    like_mask (λ n. holds_color (other_color p.color) (at b n) && holds_below p.kind (at b n)) (λ n. passes_at b (λ q. beats p q) (Some n)) _
    (λ n _. weaker_here b p n)
    (and_mask (λ n. holds_color (other_color p.color) (at b n)) (λ n. holds_below p.kind (at b n)) _ _ (rw c.other.ensures at c.of.ensures) c.below.ensures)
