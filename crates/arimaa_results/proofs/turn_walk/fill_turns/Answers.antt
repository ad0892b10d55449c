use Rattle.std.proofs.Common.{◌∙◌, ◌+◌, ℕ, List, [], ◌∷◌, drop, get_or}
use Rattle.std.specs.List.{flat_map}
use Rattle.std.proofs.lemmas.Result.{err_from_is_err_and}
use Rattle.arimaa_board.specs.declared.position.Position.{Position}
use Rattle.arimaa_region.specs.Same.{same_position}
use Rattle.arimaa_results.specs.Ahead.{brings}
use Rattle.arimaa_results.proofs.Adding.{leads_more, leads_stop, leads_end, added_ok, added_err, added_raised, items_split, items_end}
use Rattle.arimaa_results.proofs.turn_walk.fill_turns.Goals as goal

abbrev lengths : List ℕ
lengths = 1 ∷ 2 ∷ 3 ∷ 4 ∷ []

pub loop-steps-preserved : goal.loop-steps-preserved
loop-steps-preserved c =
    let F : ℕ → List Position = λ n. brings c.args.barred.now n c.start-start.result in
    let i = c.loop-steps.steps-index in
    record {
      filled = leads_more same_position (F (get_or lengths i 0)) (flat_map F (drop (i + 1) lengths)) (items_split F lengths i 0 c.loop-steps-test.true) c.loop-steps.invariant.filled
          (added_ok same_position c.fill.result _ c.in_ok-fill.was c.fill.ensures.filled);
      work = c.fill.ensures.work ∙ c.loop-steps.invariant.work;
    }

pub returns-in_err-fill-clause-filled : goal.returns-in_err-fill-clause-filled
returns-in_err-fill-clause-filled c =
    let F : ℕ → List Position = λ n. brings c.args.barred.now n c.start-start.result in
    let i = c.loop-steps.steps-index in
    let raised = err_from_is_err_and c.from_residual.result c.from_residual.ensures.1 in
    added_raised same_position c.from_residual.result raised.0 raised.1
    (rw (← c.start-start.ensures)
    (leads_stop same_position (F (get_or lengths i 0)) (flat_map F (drop (i + 1) lengths)) (items_split F lengths i 0 c.loop-steps-test.true) c.loop-steps.invariant.filled
    (added_err same_position c.fill.result _ c.in_err-fill.was c.fill.ensures.filled)))

pub returns-clause-filled : goal.returns-clause-filled
returns-clause-filled c =
    let F : ℕ → List Position = λ n. brings c.args.barred.now n c.start-start.result in
    rw (← c.start-start.ensures) (leads_end same_position (items_end F lengths c.loop-steps.steps-index c.loop-steps-test.false) c.loop-steps.invariant.filled)
