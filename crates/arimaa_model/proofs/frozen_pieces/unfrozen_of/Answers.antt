use Rattle.std.proofs.Common.{◌&&◌, ℕ}
use Rattle.std.specs.Prelude.{not}
use Rattle.arimaa_board.proofs.Lemmas.MaskLaws.{and_mask, not_mask, like_mask}
use Rattle.arimaa_board.specs.Board.{at, holds_color}
use Rattle.arimaa_model.specs.Frozen.{is_frozen, is_unfrozen}
use Rattle.arimaa_model.proofs.BeatenMasks.{unfrozen_marked}
use Rattle.arimaa_model.proofs.frozen_pieces.unfrozen_of.Goals as goal

pub returns : goal.returns
returns c =
    let b = c.args.board.now in
    let own = λ (n : ℕ). holds_color c.args.color (at b n) in
    let free = not_mask (λ n. own n && is_frozen b n) c.frozen_of.result c.frozen_of.type_inv c.frozen_of.ensures in
    like_mask (λ n. own n && not (own n && is_frozen b n)) (is_unfrozen b c.args.color) _
    (λ n _. unfrozen_marked b c.args.color n)
    (and_mask own (λ n. not (own n && is_frozen b n)) _ _ c.of.ensures free)
