use Rattle.std.proofs.Common.{sym, ◌∙◌, ap, subst}
use Rattle.std.specs.List.{flat_map}
use Rattle.arimaa_results.specs.Ahead.{given_by}
use Rattle.arimaa_results.specs.NextStates.{AreAllEnding, ends_of, pairs_left}
use Rattle.arimaa_results.proofs.EndsInOrder.{in_order_ending, brings-in_order}
use Rattle.arimaa_results.proofs.last_steps.LastSteps.in_order.Goals as goal

pub invariant_of-result : goal.invariant_of-result
invariant_of-result c =
    let steps = c.ending_in_order.result in
    subst (λ st. AreAllEnding st steps) (sym c.requires.after) (in_order_ending c.args.before.now c.args.step.now steps c.ending_in_order.ensures)

pub returns : goal.returns
returns c = λ barred.
    let steps = c.ending_in_order.result in
    ap (λ st. flat_map (given_by barred) (ends_of (pairs_left st steps))) c.requires.after
    ∙ brings-in_order c.args.before.now c.args.step.now steps c.ending_in_order.ensures barred
