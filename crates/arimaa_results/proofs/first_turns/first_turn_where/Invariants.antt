use Rattle.std.proofs.Common.{◌≡◌, []}
use Rattle.arimaa_results.specs.Conditions.{first_passing}
use Rattle.arimaa_results.specs.Walk.{first_after}
use Rattle.arimaa_results.proofs.Lemmas.Given.{first_among}
use Rattle.arimaa_results.proofs.first_turns.first_turn_where.Given as goal

-- what the lengths left give first is what all give first
abbrev pub invariant-loop-steps : goal.invariant-loop-steps
invariant-loop-steps g l = first_among (first_after (g.W.Wanted.passes l.wanted) l.p []) l.steps 5 ≡ first_passing (g.W.Wanted.passes l.wanted) l.p
