use Rattle.std.proofs.Common.{◌≡◌, length, drop}
use Rattle.arimaa_region.specs.Same.{same_position, same_words}
use Rattle.arimaa_region.specs.Segments.{below_top, live_of}
use Rattle.arimaa_results.specs.Ahead.{brings}
use Rattle.arimaa_results.specs.Layers.{keeps}
use Rattle.arimaa_results.specs.LastSteps.{next_in_order, brings_first, left_of_kept}
use Rattle.arimaa_results.specs.NextStates.{next_pairs, pairs_left, AreAllAccepted}
use Rattle.arimaa_results.proofs.Adding.{Leads}
use Rattle.arimaa_results.proofs.layer_lists.next_steps_from.Given as goal

-- what the steps left give leads to all, and the kept states left are those that stand after all
abbrev pub invariant-loop-step : goal.invariant-loop-step
invariant-loop-step l = record {
  filled : Leads same_position l.fn.region.room l.region.room l.fn.region.segments l.region.segments
      (brings_first (next_in_order (brings l.barred 0)) l.state (drop l.next (live_of (below_top l.fn.region.work.segments))) (pairs_left l.state l.steps))
      (brings_first (next_in_order (brings l.barred 0)) l.state (drop l.first (live_of (below_top l.fn.region.work.segments))) (next_pairs l.state));
  kept : Leads same_words l.fn.region.work.room l.region.work.room l.fn.region.work.segments l.region.work.segments
      (brings_first (next_in_order keeps) l.state (drop l.next (live_of (below_top l.fn.region.work.segments))) (pairs_left l.state l.steps))
      (brings_first (next_in_order keeps) l.state (drop l.first (live_of (below_top l.fn.region.work.segments))) (next_pairs l.state));
  left : left_of_kept (drop l.next (live_of (below_top l.fn.region.work.segments))) (pairs_left l.state l.steps) ≡ left_of_kept (drop l.first (live_of (below_top l.fn.region.work.segments))) (next_pairs l.state);
  accepted : AreAllAccepted l.state l.steps;
}

abbrev pub decreases-loop-step : goal.decreases-loop-step
decreases-loop-step l = length (pairs_left l.state l.steps)
