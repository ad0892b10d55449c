use Rattle.arimaa_meet.proofs.Agreeing.{reports_agree as all_agree}
use Rattle.arimaa_meet.proofs.laws.reports_agree.Goals as goal

pub returns : goal.returns
returns c = all_agree c.judgements_agree.ensures
