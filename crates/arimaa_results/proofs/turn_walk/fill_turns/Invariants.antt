use Rattle.std.proofs.Common.{◌≡◌, drop}
use Rattle.std.specs.List.{flat_map}
use Rattle.arimaa_region.specs.Same.{same_position}
use Rattle.arimaa_results.specs.Ahead.{brings}
use Rattle.arimaa_results.proofs.Adding.{Leads}
use Rattle.arimaa_results.proofs.turn_walk.fill_turns.Given as goal

-- what the lengths left bring about leads to all
abbrev pub invariant-loop-steps : goal.invariant-loop-steps
invariant-loop-steps l = record {
  filled : Leads same_position l.fn.region.room l.region.room l.fn.region.segments l.region.segments
      (flat_map (λ n. brings l.barred n l.start) (drop l.steps-index l.steps-items))
      (flat_map (λ n. brings l.barred n l.start) l.steps-items);
  work : l.region.work ≡ l.fn.region.work;
}
