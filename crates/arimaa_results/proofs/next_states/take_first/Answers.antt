use Rattle.std.proofs.Common.{refl, sym, ◌∙◌}
use Rattle.arimaa_results.proofs.FirstSteps.{none_there, lowest_there, step_taken}
use Rattle.arimaa_results.proofs.next_states.take_first.Goals as goal

pub returns-in_default : goal.returns-in_default
returns-in_default c = (refl, none_there c.args.steps.now (sym c.first_square.ensures.first ∙ c.in_default.is))

pub first_direction-dir-requires : goal.first_direction-dir-requires
first_direction-dir-requires c = (lowest_there c.args.steps.now c.in-Some.from (sym c.first_square.ensures.first ∙ c.in-Some.is)).some

pub returns : goal.returns
returns c =
    let a = c.args.steps.now in
    let m = c.in-Some.from in
    let d = c.first_direction-dir.result in
    let lowest = lowest_there a m (sym c.first_square.ensures.first ∙ c.in-Some.is) in
    step_taken a m d lowest c.first_direction-dir.ensures.there c.first_direction-dir.ensures.none_earlier _ _ _ _
    (λ n small. rw (← c.same_dir.ensures) (c.left_of-steps.ensures n small))
    (λ n small. rw (← c.same_dir-2.ensures) (c.left_of-steps-2.ensures n small))
    (λ n small. rw (← c.same_dir-3.ensures) (c.left_of-steps-3.ensures n small))
    (λ n small. rw (← c.same_dir-4.ensures) (c.left_of-steps-4.ensures n small))
