use Rattle.arimaa_archive.proofs.Agreeing.{workers_agree}
use Rattle.arimaa_archive.proofs.laws.workers_agree.Goals as goal

pub returns : goal.returns
returns c = workers_agree c.lines_apart.ensures
