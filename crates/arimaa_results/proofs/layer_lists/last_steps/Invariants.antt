use Rattle.std.proofs.Common.{◌≡◌, ◌-◌, drop}
use Rattle.arimaa_region.specs.Same.{same_position}
use Rattle.arimaa_region.specs.Segments.{live_of}
use Rattle.arimaa_results.specs.LastSteps.{brings_in_order, brings_last}
use Rattle.arimaa_results.specs.Layers.{layer}
use Rattle.arimaa_results.proofs.Adding.{Leads}
use Rattle.arimaa_results.proofs.layer_lists.last_steps.Given as goal

-- what the places left give leads to all
abbrev pub invariant-loop-place : goal.invariant-loop-place
invariant-loop-place l = record {
  filled : Leads same_position l.fn.region.room l.region.room l.fn.region.segments l.region.segments
      (brings_last (brings_in_order l.barred) l.p (drop l.next (live_of l.fn.region.work.segments)) (drop (l.place - l.second) (layer l.p 2)))
      (brings_last (brings_in_order l.barred) l.p (layer l.p 3) (layer l.p 2));
  work : l.region.work ≡ l.fn.region.work;
}
