use Rattle.std.proofs.Common.{List, Result, ap, refl, ◌∙◌}
use Rattle.std.specs.List.{flat_map}
use Rattle.std.proofs.lemmas.Result.{err_from_is_err_and}
use Rattle.arimaa_board.specs.declared.position.Position.{Position}
use Rattle.arimaa_model.specs.declared.fault.TurnFault.{TurnFault}
use Rattle.arimaa_region.specs.Same.{same_position}
use Rattle.arimaa_results.specs.Ahead.{given_by}
use Rattle.arimaa_results.proofs.Adding.{leads_start, leads_more, leads_stop, leads_end, added_ok, added_err, added_raised}
use Rattle.arimaa_results.proofs.turn_walk.fill_ends.Goals as goal

pub loop-end-init : goal.loop-end-init
loop-end-init c = record {
  filled = leads_start same_position c.args.region.now.room c.args.region.now.segments refl;
  work = refl;
}

pub loop-end-preserved : goal.loop-end-preserved
loop-end-preserved c =
    let G : Result Position TurnFault → List Position = given_by c.args.barred.now in
    record {
      filled = leads_more same_position _ (flat_map G c.advance.new.self) (ap (flat_map G) c.in-Some.ensures.next) c.loop-end.invariant.filled
          (added_ok same_position c.place_given.result _ c.in_ok-place_given.was c.place_given.ensures.filled);
      work = c.place_given.ensures.work ∙ c.loop-end.invariant.work;
    }

pub returns-in_err-place_given-clause-filled : goal.returns-in_err-place_given-clause-filled
returns-in_err-place_given-clause-filled c =
    let G : Result Position TurnFault → List Position = given_by c.args.barred.now in
    let raised = err_from_is_err_and c.from_residual.result c.from_residual.ensures.1 in
    added_raised same_position c.from_residual.result raised.0 raised.1
    (leads_stop same_position _ (flat_map G c.advance.new.self) (ap (flat_map G) c.in-Some.ensures.next) c.loop-end.invariant.filled
    (added_err same_position c.place_given.result _ c.in_err-place_given.was c.place_given.ensures.filled))

pub returns-clause-filled : goal.returns-clause-filled
returns-clause-filled c =
    let G : Result Position TurnFault → List Position = given_by c.args.barred.now in
    leads_end same_position (ap (flat_map G) c.in_default.ensures.end) c.loop-end.invariant.filled
