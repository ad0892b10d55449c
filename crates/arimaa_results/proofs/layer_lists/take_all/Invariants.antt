use Rattle.std.proofs.Common.{length}
use Rattle.std.specs.List.{flat_map}
use Rattle.arimaa_region.specs.Same.{same_position, same_words}
use Rattle.arimaa_results.specs.Ahead.{brings}
use Rattle.arimaa_results.specs.Layers.{keeps}
use Rattle.arimaa_results.specs.NextStates.{next_gives}
use Rattle.arimaa_results.proofs.Adding.{Leads}
use Rattle.arimaa_results.proofs.layer_lists.take_all.Given as goal

abbrev pub decreases-loop-next : goal.decreases-loop-next
decreases-loop-next l = length l.left

-- what the states left give leads to all
abbrev pub invariant-loop-next : goal.invariant-loop-next
invariant-loop-next l = record {
  filled : Leads same_position l.fn.region.room l.region.room l.fn.region.segments l.region.segments
      (flat_map (next_gives (brings l.barred 0)) l.left)
      (flat_map (next_gives (brings l.barred 0)) l.fn.states);
  kept : Leads same_words l.fn.region.work.room l.region.work.room l.fn.region.work.segments l.region.work.segments
      (flat_map (next_gives keeps) l.left)
      (flat_map (next_gives keeps) l.fn.states);
}
