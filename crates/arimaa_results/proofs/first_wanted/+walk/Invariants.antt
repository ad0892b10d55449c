use Rattle.std.proofs.Common.{◌≡◌, ◌-◌, ◌∷◌, length}
use Rattle.std.specs.Option.{option_map}
use Rattle.arimaa_board.specs.declared.position.Step.{Step}
use Rattle.arimaa_step.specs.declared.state.TurnState.{TurnState}
use Rattle.arimaa_results.specs.Walk.{first_given, found_from}
use Rattle.arimaa_results.proofs.first_wanted.+walk.Given as goal

abbrev pub decreases-walk : goal.decreases-walk
decreases-walk g l = l.left

abbrev pub decreases-loop-step : goal.decreases-loop-step
decreases-loop-step g l = length l.states

-- what the states left find first is what all find first
abbrev pub invariant-loop-step : goal.invariant-loop-step
invariant-loop-step g l =
    first_given (λ (pr : Step × TurnState). option_map (λ rest. pr.0 ∷ rest) (found_from (g.W.Wanted.passes l.wanted) (l.left - 1) pr.1)) l.states
    ≡ found_from (g.W.Wanted.passes l.wanted) l.left l.state
