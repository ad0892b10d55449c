use Rattle.std.proofs.Common.{◌≡◌, ◌++◌, ◌+◌, ◌≤◌, vec_len}
use Rattle.arimaa_meet.specs.Pairs.{pairs_with_gold}
use Rattle.arimaa_meet.proofs.pairs.push_with_gold.Given as goal

-- the program is paired with each of the first ones
abbrev pub invariant-loop-place : goal.invariant-loop-place
invariant-loop-place l = record {
  added : l.pairs.items ≡ l.initial.pairs.items ++ pairs_with_gold l.place l.gold;
  few : vec_len l.pairs ≤ vec_len l.initial.pairs + l.place;
}
