use Rattle.std.proofs.Common.{sym, ◌∙◌, subst}
use Rattle.arimaa_step.specs.AcceptedSteps.{AreEnding}
use Rattle.arimaa_step.proofs.TurnedMasks.{in_order_alone, in_order_other}
use Rattle.arimaa_step.proofs.state.TurnState.ending_in_order.Goals as goal

pub returns-then-made_alone : goal.returns-then-made_alone
returns-then-made_alone c =
    let ending = subst (λ st. AreEnding st c.ending-ending.result) c.requires.after c.ending-ending.ensures in
    in_order_alone c.args.self.now c.args.step.now c.left_out_of.result (sym c.made_alone.ensures ∙ c.if-made_alone.true)
    (c.left_out_of.ensures.others _ c.args.step.now ending c.commuting_with.ensures)

pub returns-else-made_alone : goal.returns-else-made_alone
returns-else-made_alone c =
    let ending = subst (λ st. AreEnding st c.ending-ending.result) c.requires.after c.ending-ending.ensures in
    in_order_other c.args.self.now c.args.step.now c.ending-ending.result (sym c.made_alone.ensures ∙ c.if-made_alone.false) ending
