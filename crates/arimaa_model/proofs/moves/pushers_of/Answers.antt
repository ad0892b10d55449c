use Rattle.std.proofs.Common.{◌&&◌, Some}
use Rattle.arimaa_board.proofs.Lemmas.MaskLaws.{and_mask, like_mask}
use Rattle.arimaa_board.specs.Board.{at}
use Rattle.arimaa_board.specs.Masks.{holds_above}
use Rattle.arimaa_board.specs.Piece.{other_color}
use Rattle.arimaa_model.specs.Frozen.{is_unfrozen}
use Rattle.arimaa_model.specs.Moves.{can_push}
use Rattle.arimaa_model.proofs.BeatenMasks.{pusher_here}
use Rattle.arimaa_model.proofs.moves.pushers_of.Goals as goal

pub returns : goal.returns
returns c =
    let b = c.args.board.now in
    let p = c.args.piece in
    like_mask (λ n. is_unfrozen b (other_color p.color) n && holds_above p.kind (at b n)) (λ n. can_push b p (Some n)) _
    (λ n _. pusher_here b p n)
    (and_mask (is_unfrozen b (other_color p.color)) (λ n. holds_above p.kind (at b n)) _ _ (rw c.other.ensures at c.unfrozen_of.ensures) c.above.ensures)
