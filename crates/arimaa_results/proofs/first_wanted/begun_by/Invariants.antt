use Rattle.std.proofs.Common.{◌≡◌, ◌<◌, ◌∷◌, length, take}
use Rattle.arimaa_results.proofs.first_wanted.begun_by.Given as goal

abbrev pub invariant-loop-next : goal.invariant-loop-next
invariant-loop-next l = length l.next-items < 4 → l.turn ≡ l.step ∷ take l.next-index l.next-items
