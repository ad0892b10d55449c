use Rattle.std.proofs.Common.{◌≡◌, drop}
use Rattle.arimaa_model.specs.Results.{next}
use Rattle.arimaa_pool.proofs.Firsts.{Left}
use Rattle.arimaa_pool.proofs.entries.first_won.Given as goal

abbrev pub invariant-loop-place : goal.invariant-loop-place
invariant-loop-place l = record {
  same : l.asker ≡ l.initial.asker;
  left : Left l.initial.asker.attacker l.initial.asker.barred l.depth l.q (drop l.place (next l.initial.asker.barred l.q));
}
