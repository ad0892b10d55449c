use Rattle.std.proofs.Common.{None}
use Rattle.arimaa_match.proofs.Counted.{faults_later, fell_never}
use Rattle.arimaa_match.proofs.Fine.{fine_off, fine_on, fine_wrong}
use Rattle.arimaa_match.specs.Match.{announcing, thinking}
use Rattle.arimaa_match.proofs.thought.think.Goals as goal

pub returns-in-Err-clause-went : goal.returns-in-Err-clause-went
unfolding announcing thinking
returns-in-Err-clause-went g c = fine_off _ (c.in-Err.ensures.went _)

pub returns-in-Err-told-clause-went : goal.returns-in-Err-told-clause-went
unfolding announcing thinking
returns-in-Err-told-clause-went g c = fine_wrong _ (c.in-Ok.ensures.went _) c.in-Err-told.is

pub returns-in-Ok-told-clause-went : goal.returns-in-Ok-told-clause-went
unfolding announcing thinking
returns-in-Ok-told-clause-went g c =
    fine_on _ (c.in-Ok.ensures.went _) c.in-Ok-told.is (c.ask_timed.ensures.went)

pub returns-in-Ok-told-clause-cause : goal.returns-in-Ok-told-clause-cause
returns-in-Ok-told-clause-cause g c =
    faults_later _ _ _ c.ask_timed.result
    (fell_never (c.in-Ok.ensures.went None)) c.ask_timed.ensures.cause
