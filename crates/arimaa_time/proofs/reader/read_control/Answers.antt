use Rattle.arimaa_time.proofs.Lemmas.Controls.{read_laws}
use Rattle.arimaa_time.proofs.reader.read_control.Goals as goal

pub returns-clause-read : goal.returns-clause-read
returns-clause-read c = (read_laws c.args.bytes.now c.read_fields.result c.read_fields.ensures).read

pub returns-clause-only : goal.returns-clause-only
returns-clause-only c = (read_laws c.args.bytes.now c.read_fields.result c.read_fields.ensures).only

pub returns-clause-first_bad : goal.returns-clause-first_bad
returns-clause-first_bad c = (read_laws c.args.bytes.now c.read_fields.result c.read_fields.ensures).first_bad
