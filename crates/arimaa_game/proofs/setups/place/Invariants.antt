use Rattle.std.proofs.Common.{◌≡◌, take}
use Rattle.arimaa_game.specs.Setups.{with_pairs}
use Rattle.arimaa_game.proofs.setups.place.Given as goal

abbrev pub invariant-loop-square : goal.invariant-loop-square
invariant-loop-square l = l.board ≡ with_pairs l.initial.board (take l.square-index l.pairs)
