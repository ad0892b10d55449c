-- The matches of a meet.
use Rattle.std.specs.Prelude.{Result, Ok}
use Rattle.std.specs.declared.alloc.AllocError.{AllocError}
use Rattle.arimaa_record.specs.Written.{text_of_record}
use Rattle.arimaa_judge.specs.declared.judgement.Judged.{Judged}
use Rattle.arimaa_judge.specs.Judgement.{IsJudged}
use Rattle.arimaa_match.specs.declared.ending.MatchDone.{MatchDone}
use Rattle.arimaa_meet.specs.declared.pairs.Pair.{Pair}

-- a match of a meet: its two programs, how it went, and what the judge says of its record
pub record MeetMatch : Type 0 where
  pub pair : Pair
  pub done : MatchDone
  pub judged : Judged

-- the judge says so of the record of a match
abbrev pub IsJudgedMatch : MeetMatch → Type 0
IsJudgedMatch m = IsJudged (text_of_record m.done.written) m.judged

-- what came of a match
abbrev pub outcome_of : MeetMatch → Result MatchDone AllocError
outcome_of m = Ok m.done
