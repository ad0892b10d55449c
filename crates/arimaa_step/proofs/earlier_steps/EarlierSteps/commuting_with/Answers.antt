use Rattle.std.proofs.Common.{ℕ}
use Rattle.std.specs.Prelude.{not}
use Rattle.arimaa_board.proofs.Lemmas.MaskLaws.{not_mask}
use Rattle.arimaa_board.specs.declared.square.Dir.TheVariants.{North, East, South, West}
use Rattle.arimaa_step.specs.CommutingSteps.{in_zone}
use Rattle.arimaa_step.proofs.TurnedMasks.{commutes_mask, by_direction}
use Rattle.arimaa_step.proofs.earlier_steps.EarlierSteps.commuting_with.Goals as goal

pub returns : goal.returns
returns c =
    let s = c.args.step.now in
    let outside = λ (n : ℕ). not (in_zone s n) in
    let is = not_mask (in_zone s) c.zone_of-outside.result c.zone_of-outside.type_inv c.zone_of-outside.ensures in
    by_direction s _
    (λ p. commutes_mask s North p _ (c.below.ensures outside is))
    (λ p. commutes_mask s East p _ (c.below-2.ensures outside is))
    (λ p. commutes_mask s South p _ (c.below-3.ensures outside is))
    (λ p. commutes_mask s West p _ (c.below-4.ensures outside is))
