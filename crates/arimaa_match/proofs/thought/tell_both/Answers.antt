use Rattle.std.proofs.Common.{None}
use Rattle.arimaa_match.proofs.Counted.{faults_later, fell_never}
use Rattle.arimaa_match.proofs.Fine.{fine_off, fine_on, fine_wrong}
use Rattle.arimaa_match.proofs.thought.tell_both.Goals as goal

pub returns-in-Err-clause-went : goal.returns-in-Err-clause-went
returns-in-Err-clause-went g c = λ given. fine_off _ (c.in-Err.ensures.went given)

pub returns-in-Err-told-clause-went : goal.returns-in-Err-told-clause-went
returns-in-Err-told-clause-went g c =
    λ given. fine_wrong _ (c.in-Ok.ensures.went given) c.in-Err-told.is

pub returns-in-Ok-told-clause-went : goal.returns-in-Ok-told-clause-went
returns-in-Ok-told-clause-went g c =
    λ given. fine_on _ (c.in-Ok.ensures.went given) c.in-Ok-told.is
    (c.tell-in-Ok-told.ensures.went given)

pub returns-in-Ok-told-clause-cause : goal.returns-in-Ok-told-clause-cause
returns-in-Ok-told-clause-cause g c =
    faults_later _ _ _ c.tell-in-Ok-told.result
    (fell_never (c.in-Ok.ensures.went None)) c.tell-in-Ok-told.ensures.cause
