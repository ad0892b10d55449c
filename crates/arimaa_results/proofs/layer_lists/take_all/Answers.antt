use Rattle.std.proofs.Common.{◌≡◌, ℕ, List, Err, ap, refl, sym, subst, ◌∙◌}
use Rattle.std.specs.Prelude.{is_ok}
use Rattle.std.specs.List.{flat_map}
use Rattle.std.proofs.lemmas.Result.{err_from_is_err_and}
use Rattle.arimaa_board.specs.declared.position.Position.{Position}
use Rattle.arimaa_region.specs.Same.{same_position, same_words}
use Rattle.arimaa_board.specs.declared.position.Step.{Step}
use Rattle.arimaa_step.specs.declared.state.TurnState.{TurnState}
use Rattle.arimaa_results.specs.Ahead.{brings}
use Rattle.arimaa_results.specs.Layers.{keeps, IsKept}
use Rattle.arimaa_results.specs.Additions.{IsFilled}
use Rattle.arimaa_results.specs.NextStates.{next_gives}
use Rattle.arimaa_results.specs.Stops.{for_won, is_room, is_work, is_won}
use Rattle.arimaa_results.proofs.Adding.{leads_start, leads_ok, leads_err, leads_end}
use Rattle.arimaa_results.proofs.layer_lists.take_all.Goals as goal

pub loop-next-init : goal.loop-next-init
loop-next-init c = record {
  filled = leads_start same_position c.args.region.now.room c.args.region.now.segments refl;
  kept = leads_start same_words c.args.region.now.work.room c.args.region.now.work.segments refl;
}

pub loop-next-preserved : goal.loop-next-preserved
loop-next-preserved c =
    let P : Step × TurnState → List Position = next_gives (brings c.args.barred.now 0) in
    let K : Step × TurnState → List (List ℕ) = next_gives keeps in
    let ok = ap is_ok c.in_ok-take.was in
    record {
      filled = leads_ok same_position _ (flat_map P c.advance.new.self) (ap (flat_map P) c.in-Some.ensures.next) c.loop-next.invariant.filled ok c.take.ensures.filled;
      kept = leads_ok same_words _ (flat_map K c.advance.new.self) (ap (flat_map K) c.in-Some.ensures.next) c.loop-next.invariant.kept ok c.take.ensures.kept;
    }

pub returns-in_err-take-clause-filled : goal.returns-in_err-take-clause-filled
returns-in_err-take-clause-filled c =
    let P : Step × TurnState → List Position = next_gives (brings c.args.barred.now 0) in
    let raised = err_from_is_err_and c.from_residual.result c.from_residual.ensures.1 in
    let same : c.take.result ≡ c.from_residual.result = c.in_err-take.was ∙ (sym (ap Err raised.2) ∙ sym raised.1) in
    subst (λ r. IsFilled c.args.region.now c.take.new.region (is_ok r) (is_room r) (flat_map P c.args.states)) same
    (leads_err same_position _ (flat_map P c.advance.new.self) (ap (flat_map P) c.in-Some.ensures.next) c.loop-next.invariant.filled (ap is_ok c.in_err-take.was) c.take.ensures.filled)

pub returns-in_err-take-clause-kept : goal.returns-in_err-take-clause-kept
returns-in_err-take-clause-kept c =
    let K : Step × TurnState → List (List ℕ) = next_gives keeps in
    let raised = err_from_is_err_and c.from_residual.result c.from_residual.ensures.1 in
    let same : c.take.result ≡ c.from_residual.result = c.in_err-take.was ∙ (sym (ap Err raised.2) ∙ sym raised.1) in
    subst (λ r. IsKept c.args.region.now.work c.take.new.region.work (is_ok r) (is_work r) (flat_map K c.args.states)) same
    (leads_err same_words _ (flat_map K c.advance.new.self) (ap (flat_map K) c.in-Some.ensures.next) c.loop-next.invariant.kept (ap is_ok c.in_err-take.was) c.take.ensures.kept)

pub returns-clause-filled : goal.returns-clause-filled
returns-clause-filled c =
    let P : Step × TurnState → List Position = next_gives (brings c.args.barred.now 0) in
    leads_end same_position (ap (flat_map P) c.in_default.ensures.end) c.loop-next.invariant.filled

pub returns-clause-kept : goal.returns-clause-kept
returns-clause-kept c =
    let K : Step × TurnState → List (List ℕ) = next_gives keeps in
    leads_end same_words (ap (flat_map K) c.in_default.ensures.end) c.loop-next.invariant.kept

pub returns-in_err-take-clause-unwon : goal.returns-in_err-take-clause-unwon
returns-in_err-take-clause-unwon c =
    let raised = err_from_is_err_and c.from_residual.result c.from_residual.ensures.1 in
    let same : is_won c.take.result ≡ is_won c.from_residual.result = ap is_won c.in_err-take.was ∙ sym (ap is_won raised.1 ∙ ap for_won raised.2) in
    sym same ∙ c.take.ensures.unwon
