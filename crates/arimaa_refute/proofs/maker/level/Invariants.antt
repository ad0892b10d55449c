use Rattle.std.proofs.Common.{◌≡◌, ◌+◌, [], drop}
use Rattle.std.specs.List.{AllByRecursion}
use Rattle.arimaa_refute.specs.OwnEscapes.{escape_at}
use Rattle.arimaa_refute.specs.Refutations.{WantsEscape, met_after}
use Rattle.arimaa_refute.proofs.Levels.{Midst}
use Rattle.arimaa_refute.proofs.maker.level.Given as goal

abbrev pub invariant-loop-number : goal.invariant-loop-number
invariant-loop-number l = record {
  same : l.asker ≡ l.initial.asker;
  empty : l.list.segments ≡ [];
  room : l.list.room ≡ l.initial.list.room;
  midst : Midst (escape_at l.initial.asker.attacker l.initial.asker.barred l.depth) (met_after l.initial.asker.attacker l.initial.asker.barred l.depth) l.initial.queue (drop l.start l.initial.queue) l.initial.escapes l.number l.queue l.escapes;
  wants : AllByRecursion (WantsEscape l.initial.asker (l.depth + 1)) (drop l.number l.initial.queue);
}
