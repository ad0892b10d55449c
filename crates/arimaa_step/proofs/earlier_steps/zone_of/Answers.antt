use Rattle.arimaa_step.specs.CommutingSteps.{is_of, is_trap_of}
use Rattle.arimaa_step.proofs.TurnedMasks.{close_mask, trap_mask, zone_mask}
use Rattle.arimaa_step.proofs.earlier_steps.zone_of.Goals as goal

pub returns : goal.returns
returns c =
    let own = c.squares_of-own.ensures in
    let s = c.args.step.now in
    let close = close_mask s _ _ own (c.neighbours.ensures (is_of s) own) in
    zone_mask s _ _ close (c.neighbours-2.ensures (is_trap_of s) (trap_mask s _ close))
