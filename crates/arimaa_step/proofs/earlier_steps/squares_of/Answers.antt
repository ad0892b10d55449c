use Rattle.std.proofs.Common.{sym, ◌∙◌}
use Rattle.arimaa_step.proofs.TurnedMasks.{two_squares}
use Rattle.arimaa_step.proofs.earlier_steps.squares_of.Goals as goal

pub returns-in-Some : goal.returns-in-Some
returns-in-Some c = two_squares c.args.step.now c.in-Some.to _ _ (sym c.step.ensures ∙ c.in-Some.is) c.mask_of-left.ensures.square c.mask_of.ensures.square
