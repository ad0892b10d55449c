use Rattle.std.proofs.Common.{◌≡◌, List, map, take}
use Rattle.std.specs.List.{AllZip}
use Rattle.arimaa_meet.specs.Matches.{MeetMatch}
use Rattle.arimaa_meet.specs.Report.{text_of_matches}
use Rattle.arimaa_meet.specs.Scores.{table_count}
use Rattle.arimaa_meet.specs.Shares.{IsTold}
use Rattle.arimaa_meet.proofs.report.report.Given as goal

-- the first matches are written and counted
abbrev pub invariant-matches : goal.invariant-matches
invariant-matches l = record {
  text : (ms : List MeetMatch) → AllZip IsTold ms l.told → l.text.items ≡ text_of_matches 1 (take l.place ms);
  counts : (ms : List MeetMatch) → AllZip IsTold ms l.told → l.counted.items ≡ map table_count (take l.place ms);
}
