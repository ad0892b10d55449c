use Rattle.std.proofs.Common.{◌&&◌, ◌∙◌, ℕ}
use Rattle.arimaa_board.proofs.Lemmas.MaskLaws.{and_mask}
use Rattle.arimaa_board.specs.Board.{at, holds_color}
use Rattle.arimaa_board.specs.Masks.{is_beside, holds_above}
use Rattle.arimaa_board.specs.Piece.{other_color}
use Rattle.arimaa_model.proofs.BeatenMasks.{enemy_beside}
use Rattle.arimaa_model.proofs.frozen_pieces.is_beaten.Goals as goal

pub returns : goal.returns
returns c =
    let b = c.args.board.now in
    let p = c.args.piece in
    let stronger = λ (n : ℕ). holds_color (other_color p.color) (at b n) && holds_above p.kind (at b n) in
    let mask = and_mask (λ n. holds_color (other_color p.color) (at b n)) (λ n. holds_above p.kind (at b n)) _ _ (rw c.other.ensures at c.of.ensures) c.above.ensures in
    c.contains.ensures.test (is_beside stronger) (c.neighbours.ensures stronger mask) ∙ enemy_beside b p c.args.square
