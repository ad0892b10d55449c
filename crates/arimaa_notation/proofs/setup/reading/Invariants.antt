use Rattle.std.proofs.Common.{ℕ, List, length}
use Rattle.arimaa_board.specs.declared.piece.Piece.{Piece}
use Rattle.arimaa_notation.proofs.Lemmas.SetupReading.{Midst}
use Rattle.arimaa_notation.proofs.setup.reading.Given as goal

abbrev pub invariant-loop-item : goal.invariant-loop-item
invariant-loop-item l = (es : List (ℕ × Piece)) × Midst l.bytes l.text es l.entries l.count

abbrev pub decreases-loop-item : goal.decreases-loop-item
decreases-loop-item l = length l.text
