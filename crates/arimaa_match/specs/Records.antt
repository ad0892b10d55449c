-- What the judge says of the record of a match.
use Rattle.std.specs.Prelude.{◌≡◌, List, [], ◌∷◌, Option, None, Some, Ok, fold, length}
use Rattle.std.specs.List.{AllByRecursion}
use Rattle.arimaa_board.specs.declared.ending.Cause.TheVariants.{Resign, Time}
use Rattle.arimaa_board.specs.declared.ending.Ending.{Ending}
use Rattle.arimaa_record.specs.declared.line.RecordLine.{RecordLine}
use Rattle.arimaa_record.specs.Written.{IsWritable, text_of_record}
use Rattle.arimaa_judge.specs.declared.judgement.Judged.{Judged}
use Rattle.arimaa_judge.specs.declared.judgement.Judged.TheVariants.{Lawful}
use Rattle.arimaa_judge.specs.Judgement.{IsJudged}
use Rattle.arimaa_judge.specs.RecordState.{RecordState, after_line, before_lines, state_ending}
use Rattle.arimaa_judge.specs.Rules.{rule_at}
use Rattle.arimaa_match.specs.declared.ending.MatchCause.TheVariants as cause
use Rattle.arimaa_match.specs.declared.ending.MatchDone.{MatchDone}
use Rattle.arimaa_match.specs.declared.ending.MatchEnd.{MatchEnd}
use Rattle.arimaa_match.specs.declared.ending.MatchEnd.TheVariants as end

-- the end of a match as its record tells it: by the rules, a resignation or the time
abbrev pub ending_in_record : MatchEnd → Option Ending
ending_in_record (end.Won winner (cause.Rules why)) = Some (record { winner = winner; cause = why })
ending_in_record (end.Won winner cause.Resign) = Some (record { winner = winner; cause = Resign })
ending_in_record (end.Won winner cause.Time) = Some (record { winner = winner; cause = Time })
ending_in_record (end.Won winner cause.Illegal) = None
ending_in_record end.Limit = None
ending_in_record (end.Engine side why) = None

-- the state of a record after these lines
abbrev pub state_after : List RecordLine → RecordState
state_after lines = fold after_line before_lines lines

-- lawful, with the positions and the number of the turns of these lines, ended as the match has
abbrev pub lawful_with : RecordState → Option Ending → Judged
lawful_with s ending = Lawful s.history (length s.labels) ending s.due

-- none of these lines breaks a rule where a record stands so, and after them it stands so
abbrev pub AreAccepted : RecordState → List RecordLine → RecordState → Type 0
AreAccepted s [] later = s ≡ later
AreAccepted s (line ∷ lines) later =
    (rule_at s (Ok line) ≡ None) × AreAccepted (after_line s line) lines later

-- each line of the record of a match can be written and breaks no rule, and the record ends as the
-- match has
pub record IsAcceptedMatch (m : MatchDone) : Type 0 where
  pub writable : AllByRecursion IsWritable m.written
  pub last : RecordState
  pub accepted : AreAccepted before_lines m.written last
  pub ending : state_ending last ≡ ending_in_record m.ending

-- the judge's answer on the record of a match: it is lawful, with the history of the setups and
-- turns that were booked; it has the match's winner and cause where the rules, a resignation or the
-- time ended the match, and else no ending
abbrev pub IsLawfulMatch : MatchDone → Type 0
IsLawfulMatch m =
    IsJudged (text_of_record m.written)
    (lawful_with (state_after m.written) (ending_in_record m.ending))
