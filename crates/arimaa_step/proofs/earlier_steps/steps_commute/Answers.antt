use Rattle.arimaa_step.proofs.Turned.{may_be_turned}
use Rattle.arimaa_step.proofs.TurnedEnds.{ends_commute}
use Rattle.arimaa_step.proofs.earlier_steps.steps_commute.Goals as goal

pub returns-clause-steps : goal.returns-clause-steps
returns-clause-steps c = may_be_turned

pub returns-clause-ends : goal.returns-clause-ends
returns-clause-ends c = λ st s t q calm cut few first far ended. ends_commute st s t calm cut few first far q ended
