-- The report of a meet does not depend on the workers.
use Rattle.std.specs.Prelude.{◌≡◌, ◌<◌, ℕ, List, length, map, slice_index_or}
use Rattle.arimaa_time.specs.declared.control.Control.{Control}
use Rattle.arimaa_match.specs.declared.ending.MatchDone.{MatchDone}
use Rattle.arimaa_match.specs.Laws.{Tells}
use Rattle.arimaa_match.specs.Parts.{Between, Coming, Lines, Scene, TookPlace}
use Rattle.arimaa_match.specs.Programs.{match_of_programs}
use Rattle.arimaa_meet.specs.Matches.{IsJudgedMatch, MeetMatch}
use Rattle.arimaa_meet.specs.Report.{text_of_report}

-- two matches in which the same answers and moments came, over ports and clocks that tell, came to
-- the same
abbrev pub MatchesAgree : Type 0
MatchesAgree = (control : Control) (old new : Scene) (other_old other_new : Scene) (heard : Coming)
    (lines other_lines : Lines) (a b : MatchDone) → Tells new → Tells other_new
    → Between old new heard lines → Between other_old other_new heard other_lines
    → TookPlace (match_of_programs control) old new a
    → TookPlace (match_of_programs control) other_old other_new b → a ≡ b

-- the judge says so of the records of these matches
abbrev pub AreJudged : List MeetMatch → Type 0
AreJudged matches = (k : ℕ) (m : MeetMatch) → k < length matches
    → IsJudgedMatch (slice_index_or matches k m)

-- meets whose matches came to the same have the same report, however the matches were dealt
abbrev pub ReportsAgree : Type 0
ReportsAgree = (programs : ℕ) (a b : List MeetMatch) → map (λ m. m.pair) a ≡ map (λ m. m.pair) b
    → map (λ m. m.done) a ≡ map (λ m. m.done) b → AreJudged a → AreJudged b
    → text_of_report programs a ≡ text_of_report programs b
