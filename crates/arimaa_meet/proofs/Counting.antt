-- What a match counts, by its own end and by its record's judgement.
use Rattle.std.proofs.Common.{◌≡◌, Option, refl, ap}
use Rattle.arimaa_board.specs.declared.piece.Color.{Color}
use Rattle.arimaa_judge.specs.RecordState.{RecordState}
use Rattle.arimaa_match.specs.declared.ending.MatchCause.TheVariants as cause
use Rattle.arimaa_match.specs.declared.ending.MatchDone.{MatchDone}
use Rattle.arimaa_match.specs.declared.ending.MatchEnd.{MatchEnd}
use Rattle.arimaa_match.specs.declared.ending.MatchEnd.TheVariants as end
use Rattle.arimaa_match.specs.Records.{ending_in_record, lawful_with}
use Rattle.arimaa_meet.specs.declared.match_count.Counted.{Counted}
use Rattle.arimaa_meet.specs.declared.pairs.Pair.{Pair}
use Rattle.arimaa_meet.specs.Matches.{MeetMatch}
use Rattle.arimaa_meet.specs.Scores.{table_count, counted_by, faulty_side, is_at_limit, winner_at, winner_of}

-- where the judge finds a record lawful that ends as its match has, the winner by the match's own
-- end is the winner by the judgement
pub winner_is : (s : RecordState) (how : MatchEnd)
    → winner_at how ≡ winner_of (lawful_with s (ending_in_record how)) how
winner_is s (end.Won winner (cause.Rules why)) = refl
winner_is s (end.Won winner cause.Resign) = refl
winner_is s (end.Won winner cause.Time) = refl
winner_is s (end.Won winner cause.Illegal) = refl
winner_is s end.Limit = refl
winner_is s (end.Engine side why) = refl

-- such a match
abbrev pub judged_match : Pair → MatchDone → RecordState → MeetMatch
judged_match pair done s = record { pair = pair; done = done; judged = lawful_with s (ending_in_record done.ending) }

pub counted_is : (pair : Pair) (done : MatchDone) (s : RecordState)
    → counted_by pair done.ending ≡ table_count (judged_match pair done s)
counted_is pair done s =
    ap (λ (w : Option Color). let c : Counted = record { pair = pair; winner = w; at_limit = is_at_limit done.ending; faulty = faulty_side done.ending } in c)
    (winner_is s done.ending)
