use Rattle.arimaa_match.proofs.Openings.{gold_opened, gold_unopened}
use Rattle.arimaa_match.proofs.Sides.{with_gold_went}
use Rattle.arimaa_match.proofs.programs.play_links.Goals as goal

pub returns-in-Ok-clause-went : goal.returns-in-Ok-clause-went
returns-in-Ok-clause-went g c =
    gold_opened c.args.control.now
    (with_gold_went _ _ c.in-Ok.ensures.opened.never_falls c.in-Ok.ensures.opened.went)
    c.play_with_gold.ensures.went

pub returns-in-Err-clause-went : goal.returns-in-Err-clause-went
returns-in-Err-clause-went g c =
    rw c.unopened.ensures
    (gold_unopened c.args.control.now c.in-Err.fault
    (with_gold_went _ _ c.in-Err.ensures.refused.never_falls c.in-Err.ensures.refused.went))
