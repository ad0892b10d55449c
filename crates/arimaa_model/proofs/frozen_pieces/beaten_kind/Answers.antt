use Rattle.std.proofs.Common.{◌&&◌}
use Rattle.arimaa_board.proofs.Lemmas.MaskLaws.{and_mask}
use Rattle.arimaa_board.specs.Board.{at}
use Rattle.arimaa_board.specs.Masks.{is_beside, holds_kind, holds_above}
use Rattle.arimaa_model.proofs.frozen_pieces.beaten_kind.Goals as goal

pub returns : goal.returns
returns c = λ test is.
    let b = c.args.board.now in
    let strong = and_mask test (λ m. holds_above c.args.kind (at b m)) _ _ is c.above.ensures in
    and_mask (λ n. holds_kind c.args.kind (at b n)) (is_beside (λ m. test m && holds_above c.args.kind (at b m))) _ _ c.kind.ensures (c.neighbours.ensures _ strong)
