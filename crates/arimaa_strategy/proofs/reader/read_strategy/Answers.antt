use Rattle.arimaa_strategy.proofs.Lemmas.TextReading.{entries_read, bad_read}
use Rattle.arimaa_strategy.proofs.reader.read_strategy.Goals as goal

pub returns-clause-no_other : goal.returns-clause-no_other
returns-clause-no_other c = λ s text. entries_read c.args.attacker c.args.bytes.now c.reading.result s c.reading.ensures text

pub returns-clause-no_other_fault : goal.returns-clause-no_other_fault
returns-clause-no_other_fault c = λ n first. bad_read c.args.attacker c.args.bytes.now c.reading.result n c.reading.ensures first
