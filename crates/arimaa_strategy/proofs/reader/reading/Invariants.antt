use Rattle.std.proofs.Common.{length}
use Rattle.arimaa_strategy.proofs.Lemmas.TextReading.{Midst}
use Rattle.arimaa_strategy.proofs.reader.reading.Given as goal

abbrev pub invariant-loop-line : goal.invariant-loop-line
invariant-loop-line l = Midst l.attacker l.bytes l.text l.strategy l.number

abbrev pub decreases-loop-line : goal.decreases-loop-line
decreases-loop-line l = length l.text
