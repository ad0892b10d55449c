use Rattle.arimaa_record.proofs.Lemmas.FormLaws.{one_reading}
use Rattle.arimaa_record.proofs.laws.lines_apart.Goals as goal

pub returns : goal.returns
returns c = one_reading
