use Rattle.std.proofs.Common.{◌≡◌, [], sym, ap, ◌∙◌, arith, Option, None, Some, List, ℕ}
use Rattle.arimaa_board.specs.declared.position.Step.{Step}
use Rattle.arimaa_results.specs.Conditions.{first_passing}
use Rattle.arimaa_results.specs.Walk.{first_after, found_from}
use Rattle.arimaa_results.proofs.Lemmas.Given.{number_more, number_found, numbers_end}
use Rattle.arimaa_results.proofs.Reached.{first_passing-is, found-first}
use Rattle.arimaa_results.proofs.Lemmas.Found.{found_some, first_passing-brings}
use Rattle.arimaa_results.proofs.first_turns.first_turn_where.Goals as goal

pub loop-steps-init : goal.loop-steps-init
loop-steps-init g c = sym (first_passing-is (g.W.Wanted.passes c.args.wanted.now) c.args.p.now)

pub loop-steps-preserved : goal.loop-steps-preserved
loop-steps-preserved g c =
    let passes = g.W.Wanted.passes c.args.wanted.now in
    let p = c.args.p.now in
    let after : ℕ → Option (List Step) = first_after passes p [] in
    number_more after c.loop-steps.steps 5 (first_passing passes p) c.loop-steps.invariant c.loop-steps-test.true (c.in_default.ensures ∙ (ap (found_from passes c.loop-steps.steps) c.start-start.ensures ∙ found-first passes p c.loop-steps.steps (omega arith)))

pub returns-in-Some : goal.returns-in-Some
returns-in-Some g c =
    let passes = g.W.Wanted.passes c.args.wanted.now in
    let p = c.args.p.now in
    let after : ℕ → Option (List Step) = first_after passes p [] in
    let first : Some c.in-Some.turn ≡ first_passing passes p =
    number_found after c.loop-steps.steps 5 (first_passing passes p) c.loop-steps.invariant c.in-Some.turn c.loop-steps-test.true (c.in-Some.ensures ∙ (ap (found_from passes c.loop-steps.steps) c.start-start.ensures ∙ found-first passes p c.loop-steps.steps (omega arith))) in
    record { first = first; some = found_some passes p (Some c.in-Some.turn) first; wanted = first_passing-brings passes p c.in-Some.turn first }

pub returns : goal.returns
returns g c =
    let passes = g.W.Wanted.passes c.args.wanted.now in
    let p = c.args.p.now in
    let after : ℕ → Option (List Step) = first_after passes p [] in
    let first : None ≡ first_passing passes p = numbers_end after c.loop-steps.steps 5 (first_passing passes p) c.loop-steps.invariant c.loop-steps-test.false in
    record { first = first; some = found_some passes p None first; wanted = tt }
