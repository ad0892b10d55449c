use Rattle.std.proofs.Common.{Ok, Err}
use Rattle.arimaa_record.proofs.ReaderLaws.{exactly}
use Rattle.arimaa_record.proofs.reader.read_line.Goals as goal

pub returns-clause-line : goal.returns-clause-line
returns-clause-line c = λ l. exactly c.args.bytes.now c.reading.result (Ok l) c.reading.ensures

pub returns-clause-fault : goal.returns-clause-fault
returns-clause-fault c = λ f. exactly c.args.bytes.now c.reading.result (Err f) c.reading.ensures
