use Rattle.std.proofs.Common.{◌≡◌, ◌*◌, ◌≤◌, vec_len}
use Rattle.std.specs.List.{flat_map}
use Rattle.arimaa_meet.specs.Pairs.{numbers, pairs_with_gold}
use Rattle.arimaa_meet.proofs.pairs.all_pairs.Given as goal

-- the pairs in which one of the first programs plays Gold
abbrev pub invariant-loop-place : goal.invariant-loop-place
invariant-loop-place l = record {
  pairs : l.pairs.items ≡ flat_map (pairs_with_gold l.programs) (numbers l.place);
  few : vec_len l.pairs ≤ l.place * 8;
}
