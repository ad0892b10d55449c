use Rattle.std.proofs.Common.{◌&&◌, ℕ}
use Rattle.std.specs.Prelude.{not}
use Rattle.arimaa_board.proofs.Lemmas.MaskLaws.{and_mask, not_mask, like_mask}
use Rattle.arimaa_board.specs.Board.{at, holds_color}
use Rattle.arimaa_board.specs.Masks.{is_beside}
use Rattle.arimaa_board.specs.Piece.{other_color}
use Rattle.arimaa_model.specs.Frozen.{is_frozen, is_beaten}
use Rattle.arimaa_model.proofs.BeatenMasks.{frozen_marked}
use Rattle.arimaa_model.proofs.frozen_pieces.frozen_of.Goals as goal

pub returns : goal.returns
returns c =
    let b = c.args.board.now in
    let own = λ (n : ℕ). holds_color c.args.color (at b n) in
    let enemy = λ (n : ℕ). holds_color (other_color c.args.color) (at b n) in
    let alone = not_mask (is_beside own) c.neighbours.result c.neighbours.type_inv (c.neighbours.ensures own c.of-own.ensures) in
    let unheld = and_mask own (λ n. not (is_beside own n)) _ _ c.of-own.ensures alone in
    let beaten = c.beaten_by.ensures enemy (rw c.other.ensures at c.of.ensures) in
    like_mask
    (λ n. (own n && not (is_beside own n)) && is_beaten b enemy n (at b n))
    (λ n. own n && is_frozen b n)
    _
    (λ n _. frozen_marked b c.args.color n)
    (and_mask (λ n. own n && not (is_beside own n)) (λ n. is_beaten b enemy n (at b n)) _ _ unheld beaten)
