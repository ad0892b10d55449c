use Rattle.std.proofs.Common.{◌≡◌, take}
use Rattle.arimaa_history.proofs.barred_positions.Barred.copy.Given as goal

abbrev pub invariant-positions : goal.invariant-positions
invariant-positions l = l.copy ≡ take l.p-index l.p-items
