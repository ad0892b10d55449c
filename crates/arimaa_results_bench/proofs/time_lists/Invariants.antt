-- Each list is closed again.
use Rattle.std.proofs.Common.{◌≡◌, []}
use Rattle.arimaa_results_bench.proofs.time_lists.Given as goal

abbrev pub invariant-loop : goal.invariant-loop
invariant-loop g l = l.region.segments ≡ []
