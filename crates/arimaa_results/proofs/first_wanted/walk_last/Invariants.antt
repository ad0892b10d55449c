use Rattle.std.proofs.Common.{◌≡◌, length}
use Rattle.arimaa_results.specs.NextStates.{last_of}
use Rattle.arimaa_results.specs.Walk.{first_given, found_from, found_last}
use Rattle.arimaa_results.proofs.first_wanted.walk_last.Given as goal

abbrev pub decreases-loop-step : goal.decreases-loop-step
decreases-loop-step g l = length (last_of l.states)

-- what the steps left find first is what all find first
abbrev pub invariant-loop-step : goal.invariant-loop-step
invariant-loop-step g l =
    first_given (found_last (g.W.Wanted.passes l.wanted)) (last_of l.states) ≡ found_from (g.W.Wanted.passes l.wanted) 1 l.state
