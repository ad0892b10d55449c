use Rattle.std.proofs.Common.{◌≡◌, drop, not}
use Rattle.std.specs.List.{find}
use Rattle.arimaa_model.specs.Results.{next}
use Rattle.arimaa_model.specs.Wins.{wins}
use Rattle.arimaa_refute.proofs.evasion.first_unwon.Given as goal

abbrev pub invariant-loop-place : goal.invariant-loop-place
invariant-loop-place l = record {
  same : l.asker ≡ l.initial.asker;
  left : find (λ q. not (wins l.initial.asker.attacker l.initial.asker.barred l.depth q)) (drop l.place (next l.initial.asker.barred l.p)) ≡ find (λ q. not (wins l.initial.asker.attacker l.initial.asker.barred l.depth q)) (next l.initial.asker.barred l.p);
}
