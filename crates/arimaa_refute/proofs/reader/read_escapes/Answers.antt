use Rattle.arimaa_refute.proofs.Lemmas.EscapeReading.{escapes-read, bad-read, read-from}
use Rattle.arimaa_refute.proofs.reader.read_escapes.Goals as goal

pub returns-clause-no_other : goal.returns-clause-no_other
returns-clause-no_other c = λ e text. escapes-read c.args.attacker c.args.bytes.now c.reading.result e c.reading.ensures text

pub returns-clause-no_other_fault : goal.returns-clause-no_other_fault
returns-clause-no_other_fault c = λ n first. bad-read c.args.attacker c.args.bytes.now c.reading.result n c.reading.ensures first

pub returns-clause-from : goal.returns-clause-from
returns-clause-from c = read-from c.args.attacker c.args.bytes.now c.reading.result c.reading.ensures
