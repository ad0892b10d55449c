use Rattle.std.proofs.Common.{[], ◌∷◌, ◌-◌, suc, drop}
use Rattle.std.specs.List.{flat_map}
use Rattle.arimaa_region.specs.Same.{same_words}
use Rattle.arimaa_region.specs.Same.{same_position}
use Rattle.arimaa_results.specs.Layers.{planes_after, layer, layers_to, brings_next}
use Rattle.arimaa_results.proofs.Adding.{Leads}
use Rattle.arimaa_results.proofs.layer_lists.next_layer.Given as goal

-- what the places left give leads to all
abbrev pub invariant-loop-place : goal.invariant-loop-place
invariant-loop-place l = record {
  filled : Leads same_position l.fn.region.room l.region.room l.fn.region.segments l.region.segments
      (flat_map (brings_next l.barred l.p) (drop (l.place - l.first) (layer l.p (suc l.lower))))
      (flat_map (brings_next l.barred l.p) (layer l.p (suc l.lower)));
  kept : Leads same_words l.fn.region.work.room l.region.work.room ([] ∷ layers_to l.p (suc l.lower)) l.region.work.segments
      (flat_map (planes_after l.p) (drop (l.place - l.first) (layer l.p (suc l.lower))))
      (flat_map (planes_after l.p) (layer l.p (suc l.lower)));
}
