use Rattle.std.proofs.Common.{◌≡◌, ◌+◌, ◌≤◌, ◌++◌, map}
use Rattle.std.specs.Prelude.{vec_capacity, vec_len}
use Rattle.arimaa_meet.proofs.workers.dismiss.Given as goal

-- the first workers gave their own back
abbrev pub invariant-workers : goal.invariant-workers
invariant-workers g l = record {
  spawners : l.spawners.items ++ map (λ w. w.spawner) l.workers.items
      ≡ l.initial.spawners.items ++ map (λ w. w.spawner) l.initial.workers.items;
  clocks : l.clocks.items ++ map (λ w. w.clock) l.workers.items
      ≡ l.initial.clocks.items ++ map (λ w. w.clock) l.initial.workers.items;
  shares : l.shares.items ++ map (λ w. w.told) l.workers.items
      ≡ l.initial.shares.items ++ map (λ w. w.told) l.initial.workers.items;
  spawner_room : vec_len l.spawners + vec_len l.workers ≤ vec_capacity l.spawners;
  clock_room : vec_len l.clocks + vec_len l.workers ≤ vec_capacity l.clocks;
  share_room : vec_len l.shares + vec_len l.workers ≤ vec_capacity l.shares;
}

abbrev pub decreases-workers : goal.decreases-workers
decreases-workers g l = vec_len l.workers
