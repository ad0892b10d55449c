use Rattle.std.proofs.Common.{ℕ}
use Rattle.std.specs.Prelude.{◌||◌}
use Rattle.arimaa_board.proofs.Lemmas.MaskLaws.{or_mask, like_mask}
use Rattle.arimaa_board.specs.Board.{at}
use Rattle.arimaa_board.specs.declared.piece.Kind.{Kind}
use Rattle.arimaa_board.specs.declared.piece.Kind.TheVariants.{Rabbit, Cat, Dog, Horse, Camel}
use Rattle.arimaa_model.specs.Frozen.{is_beaten, is_beaten_kind}
use Rattle.arimaa_model.proofs.BeatenMasks.{beaten_kinds}
use Rattle.arimaa_model.proofs.frozen_pieces.beaten_by.Goals as goal

pub returns : goal.returns
returns c = λ test is.
    let b = c.args.board.now in
    let beaten = λ (k : Kind) (n : ℕ). is_beaten_kind b test k n in
    let two = or_mask (beaten Rabbit) (beaten Cat) _ _ (c.beaten_kind.ensures test is) (c.beaten_kind-2.ensures test is) in
    let three = or_mask (λ n. beaten Rabbit n || beaten Cat n) (beaten Dog) _ _ two (c.beaten_kind-3.ensures test is) in
    let four = or_mask (λ n. (beaten Rabbit n || beaten Cat n) || beaten Dog n) (beaten Horse) _ _ three (c.beaten_kind-4.ensures test is) in
    let five = or_mask (λ n. ((beaten Rabbit n || beaten Cat n) || beaten Dog n) || beaten Horse n) (beaten Camel) _ _ four (c.beaten_kind-5.ensures test is) in
    like_mask (λ n. (((beaten Rabbit n || beaten Cat n) || beaten Dog n) || beaten Horse n) || beaten Camel n) (λ n. is_beaten b test n (at b n)) _
    (λ n _. beaten_kinds b test n) five
