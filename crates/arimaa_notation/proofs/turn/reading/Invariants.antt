use Rattle.std.proofs.Common.{List, length}
use Rattle.arimaa_board.specs.declared.turn.NotedStep.{NotedStep}
use Rattle.arimaa_notation.proofs.Lemmas.TurnReading.{Midst}
use Rattle.arimaa_notation.proofs.turn.reading.Given as goal

abbrev pub invariant-loop-item : goal.invariant-loop-item
invariant-loop-item l = (ns : List NotedStep) × Midst l.bytes l.text ns l.steps.items l.count l.number

abbrev pub decreases-loop-item : goal.decreases-loop-item
decreases-loop-item l = length l.text
