use Rattle.arimaa_archive.proofs.Agreeing.{answers_agree}
use Rattle.arimaa_archive.proofs.laws.archive_answers_agree.Goals as goal

pub returns : goal.returns
returns c = answers_agree c.lines_apart.ensures
