use Rattle.std.proofs.Common.{◌≡◌, ℕ, ◌<◌, false}
use Rattle.arimaa_model.specs.Wins.{wins}
use Rattle.arimaa_model.proofs.forced_win.plain_rank.Given as goal

abbrev pub invariant-loop-depth : goal.invariant-loop-depth
invariant-loop-depth l = (j : ℕ) → j < l.depth → wins l.attacker l.barred j l.p ≡ false
