use Rattle.std.proofs.Common.{◌≡◌, ◌+◌, ◌++◌, ℕ, List, drop, length, sym, ◌∙◌, ap, subst, true, false, arith}
use Rattle.std.specs.Prelude.{is_ok, is_some}
use Rattle.std.proofs.lemmas.List.{length-append}
use Rattle.std.proofs.lemmas.Result.{err_from_is_err_and}
use Rattle.arimaa_board.specs.declared.position.Position.{Position}
use Rattle.arimaa_board.specs.declared.position.Step.{Step}
use Rattle.arimaa_region.specs.Same.{same_position, same_words}
use Rattle.arimaa_region.specs.Segments.{top, below_top, live_of}
use Rattle.arimaa_step.specs.declared.state.TurnState.{TurnState}
use Rattle.arimaa_step.specs.Next.{next_state}
use Rattle.arimaa_results.specs.Additions.{IsFilled}
use Rattle.arimaa_results.specs.Ahead.{brings}
use Rattle.arimaa_results.specs.Layers.{keeps, IsKept}
use Rattle.arimaa_results.specs.LastSteps.{is_next, next_in_order, brings_first, left_of_kept}
use Rattle.arimaa_results.specs.NextStates.{next_pairs, pairs_left}
use Rattle.arimaa_results.specs.Stops.{for_won, is_room, is_work, is_won}
use Rattle.arimaa_results.proofs.Adding.{Leads, leads_start, leads_ok, leads_err, leads_end}
use Rattle.arimaa_results.proofs.Kept.{below_live, next_brings, next_left, other_brings, other_left, none_brings, none_left}
use Rattle.arimaa_results.proofs.Stage.{raised-room, raised-work}
use Rattle.arimaa_results.proofs.StatePairs.{all_pairs, all_accepted}
use Rattle.arimaa_results.proofs.layer_lists.next_steps_from.Goals as goal

pub kept_after-requires-clause-end : goal.kept_after-requires-clause-end
kept_after-requires-clause-end c =
    let kept = live_of (below_top c.args.region.now.work.segments) in
    let segments = c.loop-step.region.work.segments in
    let live : live_of segments ≡ kept ++ top segments = below_live c.args.region.now.work.segments segments c.requires.open_layer c.loop-step.invariant.kept.open_kept c.loop-step.invariant.kept.below_same in
    let total = ap (length {A = List ℕ}) live in
    omega (arith, length-append kept (top segments), c.requires.end)

pub loop-step-init : goal.loop-step-init
loop-step-init c =
    let kept = drop c.args.first (live_of (below_top c.args.region.now.work.segments)) in
    let a = c.accepted-steps.result in
    let all = all_pairs c.args.state.now a c.accepted-steps.ensures in
    record {
      filled = leads_start same_position c.args.region.now.room c.args.region.now.segments (ap (brings_first (next_in_order (brings c.args.barred.now 0)) c.args.state.now kept) all);
      kept = leads_start same_words c.args.region.now.work.room c.args.region.now.work.segments (ap (brings_first (next_in_order keeps) c.args.state.now kept) all);
      left = ap (left_of_kept kept) all;
      accepted = all_accepted c.args.state.now a c.accepted-steps.ensures;
    }

pub loop-step-preserved-in-Some-kept_after : goal.loop-step-preserved-in-Some-kept_after
loop-step-preserved-in-Some-kept_after c =
    let st = c.args.state.now in
    let kept = live_of (below_top c.args.region.now.work.segments) in
    let placed : TurnState → Step → List Position = next_in_order (brings c.args.barred.now 0) in
    let words : TurnState → Step → List (List ℕ) = next_in_order keeps in
    let i = c.loop-step.next in
    let s = c.in-Some.step in
    let after = next_state st s in
    let pairs = pairs_left st c.loop-step.steps in
    let left = pairs_left st c.take_step.new.steps in
    let live : live_of c.loop-step.region.work.segments ≡ kept ++ top c.loop-step.region.work.segments = below_live c.args.region.now.work.segments c.loop-step.region.work.segments c.requires.open_layer c.loop-step.invariant.kept.open_kept c.loop-step.invariant.kept.below_same in
    let is : (is_some c.kept_after.result) ≡ is_next (drop i kept) after = c.kept_after.ensures.kept kept (top c.loop-step.region.work.segments) live c.requires.end in
    let next : is_next (drop i kept) after ≡ true = sym is ∙ ap is_some c.in-Some-kept_after.is in
    let r = c.take_all.result in
    let filled : IsFilled c.loop-step.region c.take_all.new.region (is_ok r) (is_room r) (placed st s) =
    subst (λ l. IsFilled c.loop-step.region c.take_all.new.region (is_ok r) (is_room r) l) (c.in_order.ensures.positions (brings c.args.barred.now 0)) c.take_all.ensures.filled in
    let added : IsKept c.loop-step.region.work c.take_all.new.region.work (is_ok r) (is_work r) (words st s) =
    subst (λ l. IsKept c.loop-step.region.work c.take_all.new.region.work (is_ok r) (is_work r) l) (c.in_order.ensures.words keeps) c.take_all.ensures.kept in
    let ok = ap is_ok c.in_ok-take_all.was in
    record {
      filled = leads_ok same_position (placed st s) (brings_first placed st (drop (i + 1) kept) left) (next_brings placed st kept i s after pairs left c.in-Some.ensures.pairs next) c.loop-step.invariant.filled ok filled;
      kept = leads_ok same_words (words st s) (brings_first words st (drop (i + 1) kept) left) (next_brings words st kept i s after pairs left c.in-Some.ensures.pairs next) c.loop-step.invariant.kept ok added;
      left = next_left placed st kept i s after pairs left c.in-Some.ensures.pairs next ∙ c.loop-step.invariant.left;
      accepted = c.in-Some.ensures.left_accepted;
    }

pub loop-step-preserved : goal.loop-step-preserved
loop-step-preserved c =
    let st = c.args.state.now in
    let kept = live_of (below_top c.args.region.now.work.segments) in
    let placed : TurnState → Step → List Position = next_in_order (brings c.args.barred.now 0) in
    let words : TurnState → Step → List (List ℕ) = next_in_order keeps in
    let i = c.loop-step.next in
    let s = c.in-Some.step in
    let after = next_state st s in
    let pairs = pairs_left st c.loop-step.steps in
    let left = pairs_left st c.take_step.new.steps in
    let live : live_of c.loop-step.region.work.segments ≡ kept ++ top c.loop-step.region.work.segments = below_live c.args.region.now.work.segments c.loop-step.region.work.segments c.requires.open_layer c.loop-step.invariant.kept.open_kept c.loop-step.invariant.kept.below_same in
    let is : (is_some c.kept_after.result) ≡ is_next (drop i kept) after = c.kept_after.ensures.kept kept (top c.loop-step.region.work.segments) live c.requires.end in
    let other : is_next (drop i kept) after ≡ false = sym is ∙ ap is_some c.in_default-kept_after.is in
    record {
      filled = subst (λ l. Leads same_position c.args.region.now.room c.loop-step.region.room c.args.region.now.segments c.loop-step.region.segments l (brings_first placed st (drop c.args.first kept) (next_pairs st))) (other_brings placed st kept i s after pairs left c.in-Some.ensures.pairs other) c.loop-step.invariant.filled;
      kept = subst (λ l. Leads same_words c.args.region.now.work.room c.loop-step.region.work.room c.args.region.now.work.segments c.loop-step.region.work.segments l (brings_first words st (drop c.args.first kept) (next_pairs st))) (other_brings words st kept i s after pairs left c.in-Some.ensures.pairs other) c.loop-step.invariant.kept;
      left = other_left placed st kept i s after pairs left c.in-Some.ensures.pairs other ∙ c.loop-step.invariant.left;
      accepted = c.in-Some.ensures.left_accepted;
    }

pub returns-in_err-take_all-clause-filled : goal.returns-in_err-take_all-clause-filled
returns-in_err-take_all-clause-filled c =
    let st = c.args.state.now in
    let kept = live_of (below_top c.args.region.now.work.segments) in
    let placed : TurnState → Step → List Position = next_in_order (brings c.args.barred.now 0) in
    let words : TurnState → Step → List (List ℕ) = next_in_order keeps in
    let i = c.loop-step.next in
    let s = c.in-Some.step in
    let after = next_state st s in
    let pairs = pairs_left st c.loop-step.steps in
    let left = pairs_left st c.take_step.new.steps in
    let live : live_of c.loop-step.region.work.segments ≡ kept ++ top c.loop-step.region.work.segments = below_live c.args.region.now.work.segments c.loop-step.region.work.segments c.requires.open_layer c.loop-step.invariant.kept.open_kept c.loop-step.invariant.kept.below_same in
    let is : (is_some c.kept_after.result) ≡ is_next (drop i kept) after = c.kept_after.ensures.kept kept (top c.loop-step.region.work.segments) live c.requires.end in
    let next : is_next (drop i kept) after ≡ true = sym is ∙ ap is_some c.in-Some-kept_after.is in
    let r = c.take_all.result in
    let filled : IsFilled c.loop-step.region c.take_all.new.region (is_ok r) (is_room r) (placed st s) =
    subst (λ l. IsFilled c.loop-step.region c.take_all.new.region (is_ok r) (is_room r) l) (c.in_order.ensures.positions (brings c.args.barred.now 0)) c.take_all.ensures.filled in
    let raised = err_from_is_err_and c.from_residual.result c.from_residual.ensures.1 in
    raised-room same_position r c.from_residual.result _ raised.0 c.in_err-take_all.was raised.1 raised.2
    (leads_err same_position (placed st s) (brings_first placed st (drop (i + 1) kept) left) (next_brings placed st kept i s after pairs left c.in-Some.ensures.pairs next) c.loop-step.invariant.filled (ap is_ok c.in_err-take_all.was) filled)

pub returns-in_err-take_all-clause-kept : goal.returns-in_err-take_all-clause-kept
returns-in_err-take_all-clause-kept c =
    let st = c.args.state.now in
    let kept = live_of (below_top c.args.region.now.work.segments) in
    let placed : TurnState → Step → List Position = next_in_order (brings c.args.barred.now 0) in
    let words : TurnState → Step → List (List ℕ) = next_in_order keeps in
    let i = c.loop-step.next in
    let s = c.in-Some.step in
    let after = next_state st s in
    let pairs = pairs_left st c.loop-step.steps in
    let left = pairs_left st c.take_step.new.steps in
    let live : live_of c.loop-step.region.work.segments ≡ kept ++ top c.loop-step.region.work.segments = below_live c.args.region.now.work.segments c.loop-step.region.work.segments c.requires.open_layer c.loop-step.invariant.kept.open_kept c.loop-step.invariant.kept.below_same in
    let is : (is_some c.kept_after.result) ≡ is_next (drop i kept) after = c.kept_after.ensures.kept kept (top c.loop-step.region.work.segments) live c.requires.end in
    let next : is_next (drop i kept) after ≡ true = sym is ∙ ap is_some c.in-Some-kept_after.is in
    let r = c.take_all.result in
    let added : IsKept c.loop-step.region.work c.take_all.new.region.work (is_ok r) (is_work r) (words st s) =
    subst (λ l. IsKept c.loop-step.region.work c.take_all.new.region.work (is_ok r) (is_work r) l) (c.in_order.ensures.words keeps) c.take_all.ensures.kept in
    let raised = err_from_is_err_and c.from_residual.result c.from_residual.ensures.1 in
    raised-work same_words r c.from_residual.result _ raised.0 c.in_err-take_all.was raised.1 raised.2
    (leads_err same_words (words st s) (brings_first words st (drop (i + 1) kept) left) (next_brings words st kept i s after pairs left c.in-Some.ensures.pairs next) c.loop-step.invariant.kept (ap is_ok c.in_err-take_all.was) added)

pub returns-clause-filled : goal.returns-clause-filled
returns-clause-filled c =
    let kept = live_of (below_top c.args.region.now.work.segments) in
    leads_end same_position (none_brings (next_in_order (brings c.args.barred.now 0)) c.args.state.now (drop c.loop-step.next kept) (pairs_left c.args.state.now c.loop-step.steps) c.in_default.ensures.none) c.loop-step.invariant.filled

pub returns-clause-kept : goal.returns-clause-kept
returns-clause-kept c =
    let kept = live_of (below_top c.args.region.now.work.segments) in
    leads_end same_words (none_brings (next_in_order keeps) c.args.state.now (drop c.loop-step.next kept) (pairs_left c.args.state.now c.loop-step.steps) c.in_default.ensures.none) c.loop-step.invariant.kept

pub returns-clause-next : goal.returns-clause-next
returns-clause-next c =
    let kept = live_of (below_top c.args.region.now.work.segments) in
    sym (none_left (drop c.loop-step.next kept) (pairs_left c.args.state.now c.loop-step.steps) c.in_default.ensures.none) ∙ c.loop-step.invariant.left

pub returns-in_err-take_all-clause-unwon : goal.returns-in_err-take_all-clause-unwon
returns-in_err-take_all-clause-unwon c =
    let raised = err_from_is_err_and c.from_residual.result c.from_residual.ensures.1 in
    let same : is_won c.take_all.result ≡ is_won c.from_residual.result = ap is_won c.in_err-take_all.was ∙ sym (ap is_won raised.1 ∙ ap for_won raised.2) in
    sym same ∙ c.take_all.ensures.unwon
