use Rattle.std.proofs.Common.{◌≡◌, length}
use Rattle.std.specs.List.{flat_map}
use Rattle.arimaa_region.specs.Same.{same_position}
use Rattle.arimaa_results.specs.Ahead.{given_by}
use Rattle.arimaa_results.proofs.Adding.{Leads}
use Rattle.arimaa_results.proofs.turn_walk.fill_ends.Given as goal

abbrev pub decreases-loop-end : goal.decreases-loop-end
decreases-loop-end l = length l.left

-- what the ends after the steps that are left give leads to all
abbrev pub invariant-loop-end : goal.invariant-loop-end
invariant-loop-end l = record {
  filled : Leads same_position l.fn.region.room l.region.room l.fn.region.segments l.region.segments
      (flat_map (given_by l.barred) l.left)
      (flat_map (given_by l.barred) l.fn.ends);
  work : l.region.work ≡ l.fn.region.work;
}
