use Rattle.std.proofs.Common.{◌&&◌}
use Rattle.std.specs.Prelude.{◌||◌, not, is_some}
use Rattle.arimaa_board.specs.Board.{at}
use Rattle.arimaa_board.specs.Masks.{holds_kind, holds_above, holds_below}
use Rattle.arimaa_board.proofs.Lemmas.MaskLaws.{and_mask, or_mask, not_mask, like_mask}
use Rattle.arimaa_board.proofs.Lemmas.Masks.{below_else, or_fits}
use Rattle.arimaa_board.proofs.board.Board.below.Goals as goal

pub returns : goal.returns
returns c =
    let b = c.args.self.now in
    let k = c.args.kind in
    let others = or_mask (λ n. holds_kind k (at b n)) (λ n. holds_above k (at b n)) _ _ c.kind.ensures c.above.ensures in
    let rest = not_mask (λ n. holds_kind k (at b n) || holds_above k (at b n)) _ (or_fits _ _ c.kind.type_inv c.above.type_inv) others in
    like_mask (λ n. is_some (at b n) && not (holds_kind k (at b n) || holds_above k (at b n))) (λ n. holds_below k (at b n)) _
    (λ n _. below_else k (at b n))
    (and_mask (λ n. is_some (at b n)) (λ n. not (holds_kind k (at b n) || holds_above k (at b n))) _ _ c.occupied.ensures rest)
