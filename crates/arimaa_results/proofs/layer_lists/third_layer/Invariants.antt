use Rattle.std.proofs.Common.{[], ◌∷◌, drop}
use Rattle.arimaa_region.specs.Same.{same_position, same_words}
use Rattle.arimaa_region.specs.Segments.{live_of}
use Rattle.arimaa_results.specs.Ahead.{brings}
use Rattle.arimaa_results.specs.LastSteps.{next_in_order, brings_last}
use Rattle.arimaa_results.specs.Layers.{keeps, layer, layers_to}
use Rattle.arimaa_results.proofs.Adding.{Leads}
use Rattle.arimaa_results.proofs.layer_lists.third_layer.Given as goal

-- what the places left give leads to all
abbrev pub invariant-loop-place : goal.invariant-loop-place
invariant-loop-place l = record {
  filled : Leads same_position l.fn.region.room l.region.room l.fn.region.segments l.region.segments
      (brings_last (next_in_order (brings l.barred 0)) l.p (drop l.next (live_of (layers_to l.p 2))) (drop l.place (layer l.p 1)))
      (brings_last (next_in_order (brings l.barred 0)) l.p (layer l.p 2) (layer l.p 1));
  kept : Leads same_words l.fn.region.work.room l.region.work.room ([] ∷ layers_to l.p 2) l.region.work.segments
      (brings_last (next_in_order keeps) l.p (drop l.next (live_of (layers_to l.p 2))) (drop l.place (layer l.p 1)))
      (brings_last (next_in_order keeps) l.p (layer l.p 2) (layer l.p 1));
}
