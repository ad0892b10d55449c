use Rattle.std.proofs.Common.{length}
use Rattle.arimaa_record.proofs.RecordReading.{Midst}
use Rattle.arimaa_record.proofs.record.record_of.Given as goal

abbrev pub invariant-loop-line : goal.invariant-loop-line
invariant-loop-line l = Midst l.bytes l.text l.record l.number

abbrev pub decreases-loop-line : goal.decreases-loop-line
decreases-loop-line l = length l.text
