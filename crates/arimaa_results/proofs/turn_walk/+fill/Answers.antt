use Rattle.std.proofs.Common.{◌≡◌, ◌-◌, suc, List, ap, refl, sym, ◌∙◌, arith}
use Rattle.std.specs.List.{flat_map}
use Rattle.std.proofs.lemmas.Result.{err_from_is_err_and}
use Rattle.arimaa_board.specs.declared.position.Position.{Position}
use Rattle.arimaa_board.specs.declared.position.Step.{Step}
use Rattle.arimaa_region.specs.Same.{same_position}
use Rattle.arimaa_step.specs.declared.state.TurnState.{TurnState}
use Rattle.arimaa_results.specs.Ahead.{brings}
use Rattle.arimaa_results.proofs.Adding.{leads_start, leads_more, leads_stop, leads_end, added_ok, added_err, added_raised}
use Rattle.arimaa_results.proofs.Bringing.{brings-zero, brings-suc}
use Rattle.arimaa_results.proofs.StatePairs.{pairs_give}
use Rattle.arimaa_results.proofs.turn_walk.+fill.Goals as goal

pub returns-then-left-eq0-clause-filled : goal.returns-then-left-eq0-clause-filled
returns-then-left-eq0-clause-filled t c =
    let none : c.args.left ≡ 0 = c.if-left-eq0.true in
    rw (none, brings-zero) c.place_end.ensures.filled

pub returns-then-left-eq1-clause-filled : goal.returns-then-left-eq1-clause-filled
returns-then-left-eq1-clause-filled t c =
    let one : c.args.left ≡ 1 = c.if-left-eq1.true in
    rw one c.fill_last.ensures.filled

pub loop-next-init : goal.loop-next-init
loop-next-init t c =
    let st = c.args.state.now in
    let barred = c.args.barred.now in
    let n = c.args.left - 1 in
    let more : suc n ≡ c.args.left = omega arith in
    record {
      filled = leads_start same_position c.args.region.now.room c.args.region.now.segments
          (ap (flat_map (λ (pr : Step × TurnState). brings barred n pr.1)) c.of-states.ensures
          ∙ (pairs_give (brings barred n) st
          ∙ (sym (brings-suc barred n st) ∙ ap (λ k. brings barred k st) more)));
      work = refl;
    }

pub loop-next-preserved : goal.loop-next-preserved
loop-next-preserved t c =
    let P : Step × TurnState → List Position = λ pr. brings c.args.barred.now (c.args.left - 1) pr.1 in
    record {
      filled = leads_more same_position _ (flat_map P c.advance.new.self) (ap (flat_map P) c.in-Some.ensures.next) c.loop-next.invariant.filled
          (added_ok same_position c.fill.result _ c.in_ok-fill.was c.fill.ensures.filled);
      work = c.fill.ensures.work ∙ c.loop-next.invariant.work;
    }

pub returns-in_err-fill-clause-filled : goal.returns-in_err-fill-clause-filled
returns-in_err-fill-clause-filled t c =
    let P : Step × TurnState → List Position = λ pr. brings c.args.barred.now (c.args.left - 1) pr.1 in
    let raised = err_from_is_err_and c.from_residual.result c.from_residual.ensures.1 in
    added_raised same_position c.from_residual.result raised.0 raised.1
    (leads_stop same_position _ (flat_map P c.advance.new.self) (ap (flat_map P) c.in-Some.ensures.next) c.loop-next.invariant.filled
    (added_err same_position c.fill.result _ c.in_err-fill.was c.fill.ensures.filled))

pub returns-clause-filled : goal.returns-clause-filled
returns-clause-filled t c =
    let P : Step × TurnState → List Position = λ pr. brings c.args.barred.now (c.args.left - 1) pr.1 in
    leads_end same_position (ap (flat_map P) c.in_default.ensures.end) c.loop-next.invariant.filled
