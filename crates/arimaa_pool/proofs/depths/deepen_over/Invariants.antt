use Rattle.std.proofs.Common.{◌≡◌, ◌≤◌, ℕ, false}
use Rattle.arimaa_model.specs.Wins.{wins}
use Rattle.arimaa_pool.proofs.depths.deepen_over.Given as goal

abbrev pub invariant-loop-depth : goal.invariant-loop-depth
invariant-loop-depth g l = record {
  terms : l.crew.terms ≡ l.initial.crew.terms;
  count : l.crew.count ≡ l.initial.crew.count;
  lost : (j : ℕ) → j ≤ l.depth → wins l.initial.crew.terms.attacker l.initial.crew.terms.barred j l.p ≡ false;
}
