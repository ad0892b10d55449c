use Rattle.std.proofs.Common.{ℕ, ◌&&◌}
use Rattle.arimaa_board.proofs.Lemmas.MaskLaws.{and_mask}
use Rattle.std.specs.Prelude.{nat_lt}
use Rattle.arimaa_board.specs.Square.{next_square}
use Rattle.arimaa_board.specs.Masks.{passes}
use Rattle.arimaa_step.proofs.earlier_steps.below.Goals as goal

pub returns : goal.returns
returns c test is =
    let next = λ (n : ℕ). passes test (next_square n c.args.dir) in
    and_mask (λ n. test n && next n) (λ n. nat_lt n c.args.square) _ _ (and_mask test next _ _ is (c.entering.ensures test is)) c.squares_before.ensures
