use Rattle.std.proofs.Common.{◌<◌, ◌^◌, arith}
use Rattle.std.specs.Prelude.{not}
use Rattle.arimaa_board.proofs.Lemmas.MaskLaws.{and_mask, not_mask}
use Rattle.arimaa_step.proofs.earlier_steps.mask_without.Goals as goal

pub returns : goal.returns
returns c test passing is other =
    let small : c.args.other < 2 ^ 64 = omega arith in
    and_mask test (λ n. not (passing n)) _ _ is (not_mask passing c.args.other small other)
