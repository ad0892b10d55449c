use Rattle.std.proofs.Common.{sym, ◌∙◌, ap, subst}
use Rattle.std.specs.List.{flat_map}
use Rattle.arimaa_results.specs.NextStates.{AreAllAccepted, next_gives, pairs_left}
use Rattle.arimaa_results.proofs.NextInOrder.{in_order_accepted, gives-in_order}
use Rattle.arimaa_results.proofs.next_states.NextStates.in_order.Goals as goal

pub invariant_of-result : goal.invariant_of-result
invariant_of-result c =
    let steps = c.accepted_in_order.result in
    subst (λ st. AreAllAccepted st steps) (sym c.requires.after) (in_order_accepted c.args.before.now c.args.step.now steps c.accepted_in_order.ensures)

pub returns-clause-positions : goal.returns-clause-positions
returns-clause-positions c = λ given.
    let steps = c.accepted_in_order.result in
    ap (λ st. flat_map (next_gives given) (pairs_left st steps)) c.requires.after
    ∙ gives-in_order c.args.before.now c.args.step.now steps c.accepted_in_order.ensures given

pub returns-clause-words : goal.returns-clause-words
returns-clause-words c = λ given.
    let steps = c.accepted_in_order.result in
    ap (λ st. flat_map (next_gives given) (pairs_left st steps)) c.requires.after
    ∙ gives-in_order c.args.before.now c.args.step.now steps c.accepted_in_order.ensures given
