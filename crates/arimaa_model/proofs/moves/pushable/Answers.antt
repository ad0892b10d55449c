use Rattle.std.proofs.Common.{◌&&◌}
use Rattle.arimaa_board.proofs.Lemmas.MaskLaws.{and_mask, like_mask}
use Rattle.arimaa_board.specs.Board.{at, holds_color}
use Rattle.arimaa_board.specs.Piece.{other_color}
use Rattle.arimaa_model.specs.Frozen.{is_unfrozen, is_beaten}
use Rattle.arimaa_model.specs.Moves.{is_pushable}
use Rattle.arimaa_model.proofs.BeatenMasks.{pushable_content}
use Rattle.arimaa_model.proofs.moves.pushable.Goals as goal

pub returns : goal.returns
returns c =
    let b = c.args.board.now in
    let side = c.args.side in
    like_mask (λ n. holds_color (other_color side) (at b n) && is_beaten b (is_unfrozen b side) n (at b n)) (λ n. is_pushable b side n (at b n)) _
    (λ n _. pushable_content b side n (at b n))
    (and_mask (λ n. holds_color (other_color side) (at b n)) (λ n. is_beaten b (is_unfrozen b side) n (at b n)) _ _ (rw c.other.ensures at c.of.ensures) (c.beaten_by.ensures (is_unfrozen b side) c.requires))
