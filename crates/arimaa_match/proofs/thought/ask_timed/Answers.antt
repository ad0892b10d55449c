use Rattle.arimaa_match.proofs.Fine.{fine_off, timing_went, value_on, value_wrong}
use Rattle.arimaa_match.proofs.Parts.{went_done, went_on}
use Rattle.arimaa_match.proofs.thought.ask_timed.Goals as goal

pub returns-in-Err-clause-went : goal.returns-in-Err-clause-went
returns-in-Err-clause-went g c =
    went_on _ (timing_went _ _ c.moment-before.ensures.told) (fine_off _ (c.in-Err.ensures.went _))

pub returns-in-Err-heard-clause-went : goal.returns-in-Err-heard-clause-went
returns-in-Err-heard-clause-went g c =
    went_on _ (timing_went _ _ c.moment-before.ensures.told)
    (value_wrong _ _ (c.in-Ok.ensures.went _) c.in-Err-heard.is)

pub returns-in-Ok-heard-clause-went : goal.returns-in-Ok-heard-clause-went
returns-in-Ok-heard-clause-went g c =
    went_on _ (timing_went _ _ c.moment-before.ensures.told)
    (value_on _ (c.in-Ok.ensures.went _) c.in-Ok-heard.is
    (went_on _ (timing_went _ _ c.moment-after.ensures.told) went_done))
