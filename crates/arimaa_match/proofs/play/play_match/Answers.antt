use Rattle.std.proofs.Common.{None, Ok}
use Rattle.arimaa_match.proofs.Counted.{end_sooner, ended_of, fell_never}
use Rattle.arimaa_match.proofs.MatchRecords.{match_accepted, went_accepted}
use Rattle.arimaa_match.specs.Match.{match_of}
use Rattle.arimaa_match.proofs.Ends.{left_with, playing_as}
use Rattle.arimaa_match.proofs.Parts.{went_off, went_on}
use Rattle.arimaa_match.proofs.play.play_match.Goals as goal

pub returns-in-Err-clause-went : goal.returns-in-Err-clause-went
unfolding match_of
returns-in-Err-clause-went g c =
    went_off _ (playing_as 100002 c.new-umpire.ensures (c.in-Err.ensures.went))

pub returns-in-Err-quit_both-clause-went : goal.returns-in-Err-quit_both-clause-went
unfolding match_of
returns-in-Err-quit_both-clause-went g c =
    went_on _ (playing_as 100002 c.new-umpire.ensures (c.in-Ok.ensures.went))
    (went_off _ (c.in-Err-quit_both.ensures _))

pub returns-in-Ok-quit_both-clause-went : goal.returns-in-Ok-quit_both-clause-went
unfolding match_of
returns-in-Ok-quit_both-clause-went g c =
    went_on _ (playing_as 100002 c.new-umpire.ensures (c.in-Ok.ensures.went))
    (went_on _ (c.in-Ok-quit_both.ensures _)
    (left_with c.in-Ok.ending c.into_parts-written.ensures.written
    c.into_parts-written.ensures.log))

pub returns-in-Ok-quit_both-clause-cause : goal.returns-in-Ok-quit_both-clause-cause
returns-in-Ok-quit_both-clause-cause g c =
    end_sooner _ _ _ c.in-Ok.ending
    (fell_never (c.in-Ok-quit_both.ensures None)) c.in-Ok.ensures.cause

pub returns-in-Ok-quit_both-clause-ended : goal.returns-in-Ok-quit_both-clause-ended
returns-in-Ok-quit_both-clause-ended g c = ended_of _ _ c.in-Ok.ending c.in-Ok.ensures.cause

pub returns-in-Ok-quit_both-clause-written : goal.returns-in-Ok-quit_both-clause-written
unfolding match_of
returns-in-Ok-quit_both-clause-written g c =
    went_accepted
    (Ok (record {
      written = c.into_parts-written.result.0;
      ending = c.in-Ok.ending;
      log = c.into_parts-written.result.1;
    })) (match_accepted c.args.control.now)
    (went_on _ (playing_as 100002 c.new-umpire.ensures (c.in-Ok.ensures.went))
    (went_on _ (c.in-Ok-quit_both.ensures _)
    (left_with c.in-Ok.ending c.into_parts-written.ensures.written
    c.into_parts-written.ensures.log)))
