use Rattle.std.proofs.Common.{◌≡◌, ◌-◌, length}
use Rattle.std.specs.List.{flat_map}
use Rattle.arimaa_board.specs.declared.position.Step.{Step}
use Rattle.arimaa_region.specs.Same.{same_position}
use Rattle.arimaa_step.specs.declared.state.TurnState.{TurnState}
use Rattle.arimaa_results.specs.Ahead.{brings}
use Rattle.arimaa_results.proofs.Adding.{Leads}
use Rattle.arimaa_results.proofs.turn_walk.+fill.Given as goal

abbrev pub decreases-fill : goal.decreases-fill
decreases-fill l = l.left

abbrev pub decreases-loop-next : goal.decreases-loop-next
decreases-loop-next l = length l.states

-- what the states left bring about leads to all
abbrev pub invariant-loop-next : goal.invariant-loop-next
invariant-loop-next l = record {
  filled : Leads same_position l.fn.region.room l.region.room l.fn.region.segments l.region.segments
      (flat_map (λ (pr : Step × TurnState). brings l.barred (l.left - 1) pr.1) l.states)
      (brings l.barred l.left l.state);
  work : l.region.work ≡ l.fn.region.work;
}
