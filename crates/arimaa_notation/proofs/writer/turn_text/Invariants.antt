use Rattle.std.proofs.Common.{◌≡◌, ◌*◌, ◌-◌, ◌≤◌, length, take}
use Rattle.std.specs.List.{AllByRecursion}
use Rattle.arimaa_notation.specs.Written.{text_of_turn}
use Rattle.arimaa_notation.specs.Grammar.{IsOnBoard}
use Rattle.arimaa_notation.proofs.writer.turn_text.Given as goal

abbrev pub invariant-loop-noted : goal.invariant-loop-noted
invariant-loop-noted l = (l.text.bytes ≡ text_of_turn (take l.noted-index l.noted-items)) × (length l.text.bytes ≤ 10 * l.noted-index - 1) × AllByRecursion IsOnBoard (take l.noted-index l.noted-items)
