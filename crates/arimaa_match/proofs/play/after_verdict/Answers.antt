use Rattle.arimaa_match.proofs.Counted.{broken_cause}
use Rattle.arimaa_match.proofs.Parts.{went_done, went_off, went_on}
use Rattle.arimaa_match.proofs.Turns.{broke_off, went_to}
use Rattle.arimaa_match.proofs.play.after_verdict.Goals as goal

pub returns-in-Err-clause-went : goal.returns-in-Err-clause-went
returns-in-Err-clause-went g c =
    λ given. rw c.in-Moved.is (went_off _ (c.in-Err.ensures.went given))

pub returns-in-Ok-told-clause-went : goal.returns-in-Ok-told-clause-went
returns-in-Ok-told-clause-went g c =
    λ given. rw c.in-Moved.is
    (went_on _ (went_to (c.in-Ok.ensures.went given) c.in-Ok-told.is) went_done)

pub returns-in-Err-told-clause-went : goal.returns-in-Err-told-clause-went
returns-in-Err-told-clause-went g c = λ given.
    rw c.in-Moved.is
    (went_on _ (went_to (c.in-Ok.ensures.went given) c.in-Err-told.is)
    (broke_off _ _ c.in-Err-told.fault c.break_off.result c.break_off.ensures.state
    c.break_off.ensures.how))

pub returns-in-Won-clause-went : goal.returns-in-Won-clause-went
returns-in-Won-clause-went g c = λ given. rw c.in-Won.is went_done

pub returns-in-Limit-clause-went : goal.returns-in-Limit-clause-went
returns-in-Limit-clause-went g c = λ given. rw c.in-Limit.is went_done

pub returns-in-Err-told-clause-cause : goal.returns-in-Err-told-clause-cause
returns-in-Err-told-clause-cause g c =
    broken_cause _ _ c.in-Err-told.fault c.in-Ok.told c.break_off.result c.in-Err-told.is
    c.in-Ok.ensures.cause c.break_off.ensures.how
