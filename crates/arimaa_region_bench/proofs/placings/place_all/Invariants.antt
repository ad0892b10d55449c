use Rattle.std.proofs.Common.{◌≡◌, length}
use Rattle.arimaa_region_bench.proofs.placings.place_all.Given as goal

abbrev pub invariant-loop-position : goal.invariant-loop-position
invariant-loop-position l = length l.region.segments ≡ length l.fn.region.segments
