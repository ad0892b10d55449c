use Rattle.arimaa_record.specs.Lines.{lines_of}
use Rattle.arimaa_record.proofs.RecordReading.{lines_read, fault_read}
use Rattle.arimaa_record.proofs.record.read_record.Goals as goal

pub returns-clause-no_other : goal.returns-clause-no_other
returns-clause-no_other c = λ r said. lines_read (lines_of c.args.bytes.now) c.record_of.result r c.record_of.ensures said

pub returns-clause-no_other_fault : goal.returns-clause-no_other_fault
returns-clause-no_other_fault c = λ n f first. fault_read (lines_of c.args.bytes.now) c.record_of.result n f c.record_of.ensures first
