use Rattle.std.proofs.Common.{◌≡◌, ◌≤◌, []}
use Rattle.arimaa_refute.specs.OwnEscapes.{escapes_of}
use Rattle.arimaa_refute.proofs.Levels.{Making}
use Rattle.arimaa_refute.proofs.maker.make.Given as goal

abbrev pub invariant-loop-turns : goal.invariant-loop-turns
invariant-loop-turns l = record {
  same : l.asker ≡ l.fn.asker;
  empty : l.list.segments ≡ [];
  room : l.list.room ≡ l.fn.asker.room;
  few : l.turns ≤ 20;
  making : Making l.fn.asker (escapes_of l.fn.asker.attacker l.fn.asker.barred l.n l.p) l.turns l.start l.queue l.escapes;
}

abbrev pub decreases-loop-turns : goal.decreases-loop-turns
decreases-loop-turns l = l.turns
