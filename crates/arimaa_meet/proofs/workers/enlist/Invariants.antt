use Rattle.std.proofs.Common.{◌≡◌, ◌+◌, ◌≤◌, ◌++◌, map}
use Rattle.std.specs.Prelude.{vec_capacity, vec_len}
use Rattle.arimaa_meet.proofs.Working.{AreNumbered}
use Rattle.arimaa_meet.proofs.workers.enlist.Given as goal

-- the first spawners and clocks came to workers
abbrev pub invariant-workers : goal.invariant-workers
invariant-workers g l = record {
  spawners : map (λ w. w.spawner) l.workers.items ++ l.spawners.items ≡ l.initial.spawners.items;
  clocks : map (λ w. w.clock) l.workers.items ++ l.clocks.items ≡ l.initial.clocks.items;
  numbers : AreNumbered l.workers.items;
  together : vec_len l.spawners ≡ vec_len l.clocks;
  count : vec_len l.workers + vec_len l.spawners ≡ vec_len l.initial.spawners;
  room : vec_len l.initial.spawners ≤ vec_capacity l.workers;
  spawner_room : vec_capacity l.spawners ≡ vec_capacity l.initial.spawners;
  clock_room : vec_capacity l.clocks ≡ vec_capacity l.initial.clocks;
}

abbrev pub decreases-workers : goal.decreases-workers
decreases-workers g l = vec_len l.spawners
