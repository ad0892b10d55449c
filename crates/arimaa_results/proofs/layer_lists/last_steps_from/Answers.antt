use Rattle.std.proofs.Common.{◌≡◌, ◌+◌, ℕ, List, [], length, drop, arith, append-nil, refl, sym, ◌∙◌, ap, subst, true, false}
use Rattle.std.specs.Prelude.{is_ok, is_err, is_some}
use Rattle.std.proofs.lemmas.Result.{err_from_is_err_and}
use Rattle.arimaa_region.specs.Same.{same_position}
use Rattle.arimaa_region.specs.Segments.{Stacked, live_of}
use Rattle.arimaa_results.specs.Additions.{IsFilled}
use Rattle.arimaa_results.specs.LastSteps.{is_next, brings_in_order, brings_first, left_of_kept}
use Rattle.arimaa_results.specs.NextStates.{next_pairs, pairs_left}
use Rattle.arimaa_step.specs.Next.{next_state}
use Rattle.arimaa_results.proofs.StatePairs.{all_pairs, all_accepted}
use Rattle.arimaa_results.proofs.Adding.{Leads, leads_start, leads_ok, leads_stop, leads_end, added_err, added_raised}
use Rattle.arimaa_results.proofs.Kept.{next_brings, next_left, other_brings, other_left, none_brings, none_left}
use Rattle.arimaa_results.proofs.layer_lists.last_steps_from.Goals as goal

pub kept_after-requires-clause-end : goal.kept_after-requires-clause-end
kept_after-requires-clause-end c =
    let same = ap (λ (h : Stacked (List ℕ)). length (live_of h.segments)) c.loop-step.invariant.work in
    omega (arith, c.work_len-end.ensures.count)

pub loop-step-init : goal.loop-step-init
loop-step-init c =
    let kept = drop c.args.first (live_of c.args.region.now.work.segments) in
    let a = c.accepted-steps.result in
    let all = all_pairs c.args.state.now a c.accepted-steps.ensures in
    record {
      filled = leads_start same_position c.args.region.now.room c.args.region.now.segments (ap (brings_first (brings_in_order c.args.barred.now) c.args.state.now kept) all);
      kept = ap (left_of_kept kept) all;
      accepted = all_accepted c.args.state.now a c.accepted-steps.ensures;
      work = refl;
    }

pub loop-step-preserved-in-Some-kept_after : goal.loop-step-preserved-in-Some-kept_after
loop-step-preserved-in-Some-kept_after c =
    let st = c.args.state.now in
    let barred = c.args.barred.now in
    let live = live_of c.args.region.now.work.segments in
    let i = c.loop-step.next in
    let s = c.in-Some.step in
    let after = next_state st s in
    let pairs = pairs_left st c.loop-step.steps in
    let left = pairs_left st c.take_step.new.steps in
    let is : (is_some c.kept_after.result) ≡ is_next (drop i live) after = c.kept_after.ensures.kept live [] (ap (λ (h : Stacked (List ℕ)). live_of h.segments) c.loop-step.invariant.work ∙ sym (append-nil live)) c.work_len-end.ensures.count in
    let next : is_next (drop i live) after ≡ true = sym is ∙ ap is_some c.in-Some-kept_after.is in
    let r = c.fill_ends.result in
    let filled : IsFilled c.loop-step.region c.fill_ends.new.region (is_ok r) (is_err r) (brings_in_order barred st s) =
    subst (λ l. IsFilled c.loop-step.region c.fill_ends.new.region (is_ok r) (is_err r) l) (c.in_order.ensures barred) c.fill_ends.ensures.filled in
    record {
      filled = leads_ok same_position (brings_in_order barred st s) (brings_first (brings_in_order barred) st (drop (i + 1) live) left) (next_brings (brings_in_order barred) st live i s after pairs left c.in-Some.ensures.pairs next) c.loop-step.invariant.filled (ap is_ok c.in_ok-fill_ends.was) filled;
      kept = next_left (brings_in_order barred) st live i s after pairs left c.in-Some.ensures.pairs next ∙ c.loop-step.invariant.kept;
      accepted = c.in-Some.ensures.left_accepted;
      work = c.fill_ends.ensures.work ∙ c.loop-step.invariant.work;
    }

pub loop-step-preserved : goal.loop-step-preserved
loop-step-preserved c =
    let st = c.args.state.now in
    let barred = c.args.barred.now in
    let live = live_of c.args.region.now.work.segments in
    let i = c.loop-step.next in
    let s = c.in-Some.step in
    let after = next_state st s in
    let pairs = pairs_left st c.loop-step.steps in
    let left = pairs_left st c.take_step.new.steps in
    let is : (is_some c.kept_after.result) ≡ is_next (drop i live) after = c.kept_after.ensures.kept live [] (ap (λ (h : Stacked (List ℕ)). live_of h.segments) c.loop-step.invariant.work ∙ sym (append-nil live)) c.work_len-end.ensures.count in
    let other : is_next (drop i live) after ≡ false = sym is ∙ ap is_some c.in_default-kept_after.is in
    record {
      filled = subst (λ l. Leads same_position c.args.region.now.room c.loop-step.region.room c.args.region.now.segments c.loop-step.region.segments l (brings_first (brings_in_order barred) st (drop c.args.first live) (next_pairs st))) (other_brings (brings_in_order barred) st live i s after pairs left c.in-Some.ensures.pairs other) c.loop-step.invariant.filled;
      kept = other_left (brings_in_order barred) st live i s after pairs left c.in-Some.ensures.pairs other ∙ c.loop-step.invariant.kept;
      accepted = c.in-Some.ensures.left_accepted;
      work = c.loop-step.invariant.work;
    }

pub returns-in_err-fill_ends-clause-filled : goal.returns-in_err-fill_ends-clause-filled
returns-in_err-fill_ends-clause-filled c =
    let st = c.args.state.now in
    let barred = c.args.barred.now in
    let live = live_of c.args.region.now.work.segments in
    let i = c.loop-step.next in
    let s = c.in-Some.step in
    let after = next_state st s in
    let pairs = pairs_left st c.loop-step.steps in
    let left = pairs_left st c.take_step.new.steps in
    let is : (is_some c.kept_after.result) ≡ is_next (drop i live) after = c.kept_after.ensures.kept live [] (ap (λ (h : Stacked (List ℕ)). live_of h.segments) c.loop-step.invariant.work ∙ sym (append-nil live)) c.work_len-end.ensures.count in
    let next : is_next (drop i live) after ≡ true = sym is ∙ ap is_some c.in-Some-kept_after.is in
    let r = c.fill_ends.result in
    let filled : IsFilled c.loop-step.region c.fill_ends.new.region (is_ok r) (is_err r) (brings_in_order barred st s) =
    subst (λ l. IsFilled c.loop-step.region c.fill_ends.new.region (is_ok r) (is_err r) l) (c.in_order.ensures barred) c.fill_ends.ensures.filled in
    let raised = err_from_is_err_and c.from_residual.result c.from_residual.ensures.1 in
    added_raised same_position c.from_residual.result raised.0 raised.1
    (leads_stop same_position (brings_in_order barred st s) (brings_first (brings_in_order barred) st (drop (i + 1) live) left) (next_brings (brings_in_order barred) st live i s after pairs left c.in-Some.ensures.pairs next) c.loop-step.invariant.filled
    (added_err same_position r _ c.in_err-fill_ends.was filled))

pub returns-clause-filled : goal.returns-clause-filled
returns-clause-filled c =
    let live = live_of c.args.region.now.work.segments in
    leads_end same_position (none_brings (brings_in_order c.args.barred.now) c.args.state.now (drop c.loop-step.next live) (pairs_left c.args.state.now c.loop-step.steps) c.in_default.ensures.none) c.loop-step.invariant.filled

pub returns-clause-next : goal.returns-clause-next
returns-clause-next c =
    let live = live_of c.args.region.now.work.segments in
    sym (none_left (drop c.loop-step.next live) (pairs_left c.args.state.now c.loop-step.steps) c.in_default.ensures.none) ∙ c.loop-step.invariant.kept
