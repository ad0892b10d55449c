use Rattle.arimaa_match.proofs.Openings.{silver_opened}
use Rattle.arimaa_match.proofs.Sides.{with_silver_went}
use Rattle.arimaa_match.proofs.programs.play_with_gold.Goals as goal

pub returns-in-Ok-clause-went : goal.returns-in-Ok-clause-went
returns-in-Ok-clause-went g c =
    rw (c.into_port.ensures, c.into_port-in-Ok.ensures)
    (silver_opened c.args.control.now
    (with_silver_went _ _ c.in-Ok.ensures.opened.never_falls c.in-Ok.ensures.opened.went)
    c.play_match-done.ensures.went)

pub returns-in-Err-clause-went : goal.returns-in-Err-clause-went
returns-in-Err-clause-went g c =
    c.give_up.ensures.went c.args.control.now _ _
    (with_silver_went _ _ c.in-Err.ensures.refused.never_falls c.in-Err.ensures.refused.went)
