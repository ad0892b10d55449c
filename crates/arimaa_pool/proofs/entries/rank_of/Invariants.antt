use Rattle.std.proofs.Common.{◌≡◌, ◌<◌, ℕ, false}
use Rattle.arimaa_model.specs.Wins.{wins}
use Rattle.arimaa_pool.proofs.entries.rank_of.Given as goal

abbrev pub invariant-loop-depth : goal.invariant-loop-depth
invariant-loop-depth l = record {
  same : l.asker ≡ l.initial.asker;
  lost : (j : ℕ) → j < l.depth → wins l.initial.asker.attacker l.initial.asker.barred j l.q ≡ false;
}
