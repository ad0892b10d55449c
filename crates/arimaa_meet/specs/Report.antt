-- The report of a meet. Each line ends with a line feed.
use Rattle.std.specs.Prelude.{ℕ, ◌+◌, List, [], ◌∷◌, ◌++◌, codes, map}
use Rattle.std.specs.Fmt.{decimal}
use Rattle.std.specs.List.{flat_map}
use Rattle.arimaa_judge.specs.Texts.{line}
use Rattle.arimaa_match.specs.Texts.{text_of_match}
use Rattle.arimaa_meet.specs.declared.match_count.Counted.{Counted}
use Rattle.arimaa_meet.specs.declared.pairs.Pair.{Pair}
use Rattle.arimaa_meet.specs.declared.table.Score.{Score}
use Rattle.arimaa_meet.specs.Matches.{MeetMatch}
use Rattle.arimaa_meet.specs.Pairs.{numbers}
use Rattle.arimaa_meet.specs.Scores.{table_count, score_of}

-- the line before a match: its number, and those of its programs, Gold's first
abbrev pub line_of_pair : ℕ → Pair → List ℕ
line_of_pair number pair =
    line (codes "match " ++ decimal number ++ 32 ∷ decimal pair.gold ++ 32 ∷ decimal pair.silver)

-- the matches in order, the first of which has this number
abbrev pub text_of_matches : ℕ → List MeetMatch → List ℕ
text_of_matches number [] = []
text_of_matches number (m ∷ later) =
    line_of_pair number m.pair ++ text_of_match m.done ++ text_of_matches (number + 1) later

-- the row of a program
abbrev pub text_of_score : ℕ → Score → List ℕ
text_of_score program score = line (codes "program " ++ decimal program
    ++ codes " wins " ++ decimal score.wins
    ++ codes " losses " ++ decimal score.losses
    ++ codes " limits " ++ decimal score.limits
    ++ codes " faults " ++ decimal score.faults)

-- the table: the row of each of so many programs, in order
abbrev pub text_of_table : ℕ → List Counted → List ℕ
text_of_table programs matches =
    flat_map (λ program. text_of_score program (score_of program matches)) (numbers programs)

-- the report on the matches of so many programs: the matches, counted from 1, and then the table
abbrev pub text_of_report : ℕ → List MeetMatch → List ℕ
text_of_report programs matches =
    text_of_matches 1 matches ++ text_of_table programs (map table_count matches)
