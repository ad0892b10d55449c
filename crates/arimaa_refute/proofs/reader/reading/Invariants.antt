use Rattle.std.proofs.Common.{length}
use Rattle.arimaa_refute.proofs.Lemmas.EscapeReading.{Midst}
use Rattle.arimaa_refute.proofs.reader.reading.Given as goal

abbrev pub invariant-loop-line : goal.invariant-loop-line
invariant-loop-line l = Midst l.attacker l.bytes l.text l.escapes l.number

abbrev pub decreases-loop-line : goal.decreases-loop-line
decreases-loop-line l = length l.text
