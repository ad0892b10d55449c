use Rattle.std.proofs.Common.{◌≡◌, ◌-◌, [], length, take, map}
use Rattle.arimaa_model.specs.Strategies.{positions_met}
use Rattle.arimaa_pool.specs.Extraction.{IsQueue, written_entry}
use Rattle.arimaa_pool.proofs.extraction.extract.Given as goal

abbrev pub invariant-loop-played : goal.invariant-loop-played
invariant-loop-played l = record {
  same : l.asker ≡ l.fn.asker;
  empty : l.list.segments ≡ [];
  room : l.list.room ≡ l.fn.asker.room;
  queue_is : IsQueue l.fn.asker l.rank l.p l.played l.queue;
  strategy : l.strategy ≡ map (written_entry l.fn.asker l.rank) (take l.played l.queue);
}

abbrev pub decreases-loop-played : goal.decreases-loop-played
decreases-loop-played l = length (positions_met l.fn.asker.attacker l.fn.asker.barred l.rank l.p l.rank) - l.played
