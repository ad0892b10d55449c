use Rattle.std.proofs.Common.{◌≡◌, ℕ, List, length}
use Rattle.arimaa_meet.specs.Matches.{MeetMatch}
use Rattle.arimaa_meet.specs.Shares.{AreShares}
use Rattle.arimaa_meet.proofs.Gathering.{Gathered}
use Rattle.arimaa_meet.proofs.gather.gather.Given as goal

-- what is told of the first matches was taken
abbrev pub invariant-matches : goal.invariant-matches
invariant-matches l = record {
  size : length l.shares.items ≡ length l.initial.shares.items;
  taken : (of_worker : ℕ → List MeetMatch) → AreShares l.pairs of_worker l.initial.shares.items
      → Gathered l.pairs (length l.initial.shares.items) of_worker l.place l.shares.items l.told.items;
}
