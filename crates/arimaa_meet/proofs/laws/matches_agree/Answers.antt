use Rattle.arimaa_meet.proofs.Agreeing.{matches_agree as all_agree}
use Rattle.arimaa_meet.proofs.laws.matches_agree.Goals as goal

pub returns : goal.returns
returns c = all_agree c.told_once.ensures
