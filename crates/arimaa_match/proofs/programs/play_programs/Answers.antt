use Rattle.arimaa_board.specs.declared.piece.Color.TheVariants.{Gold, Silver}
use Rattle.arimaa_match.proofs.MatchRecords.{programs_accepted, unstarted_accepted, went_accepted}
use Rattle.arimaa_match.proofs.programs.play_programs.Goals as goal

pub returns-in-Err-clause-written : goal.returns-in-Err-clause-written
returns-in-Err-clause-written g c = rw c.unstarted.ensures (unstarted_accepted Gold c.in-Err.fault)

pub returns-in-Err-open-clause-written : goal.returns-in-Err-open-clause-written
returns-in-Err-open-clause-written g c =
    rw c.unstarted-in-Err-open.ensures (unstarted_accepted Silver c.in-Err-open.fault)

pub returns-clause-written : goal.returns-clause-written
returns-clause-written g c =
    went_accepted c.play_links-done.result.done
    (programs_accepted c.args.control.now) c.play_links-done.ensures.went
