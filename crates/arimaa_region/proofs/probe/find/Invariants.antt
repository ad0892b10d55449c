use Rattle.std.proofs.Common.{◌≡◌, ℕ, ◌+◌, ◌≤◌, length, get_or}
use Rattle.arimaa_region.proofs.Places.{IsNowhere}
use Rattle.arimaa_region.proofs.probe.find.Given as goal

abbrev pub invariant-loop-link : goal.invariant-loop-link
invariant-loop-link g l = record {
  within : l.link ≤ length l.index.buckets;
  there : (k : ℕ) → k + 1 ≡ l.link → get_or l.index.buckets k 0 ≡ l.bucket;
  after : IsNowhere l.places l.link (length l.index.buckets) l.value;
}

abbrev pub decreases-loop-link : goal.decreases-loop-link
decreases-loop-link g l = l.link
