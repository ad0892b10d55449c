-- What the matches of a meet count in its table.
use Rattle.std.specs.Prelude.{ℕ, ◌==◌, Bool, true, false, ◌&&◌, ◌||◌, List, Option, None, Some, count_by}
use Rattle.arimaa_board.specs.declared.piece.Color.{Color}
use Rattle.arimaa_board.specs.declared.piece.Color.TheVariants.{Gold, Silver}
use Rattle.arimaa_judge.specs.declared.judgement.Judged.{Judged}
use Rattle.arimaa_judge.specs.declared.judgement.Judged.TheVariants as judgement
use Rattle.arimaa_match.specs.declared.ending.MatchCause.TheVariants as cause
use Rattle.arimaa_match.specs.declared.ending.MatchEnd.{MatchEnd}
use Rattle.arimaa_match.specs.declared.ending.MatchEnd.TheVariants as end
use Rattle.arimaa_meet.specs.declared.match_count.Counted.{Counted}
use Rattle.arimaa_meet.specs.declared.pairs.Pair.{Pair}
use Rattle.arimaa_meet.specs.declared.table.Score.{Score}
use Rattle.arimaa_meet.specs.Matches.{MeetMatch}
use Rattle.arimaa_meet.specs.Pairs.{program_at}

-- the side that has won because the other's answer was no lawful setup or turn
abbrev pub winner_by_illegal : MatchEnd → Option Color
winner_by_illegal (end.Won winner cause.Illegal) = Some winner
winner_by_illegal (end.Won winner (cause.Rules why)) = None
winner_by_illegal (end.Won winner cause.Resign) = None
winner_by_illegal (end.Won winner cause.Time) = None
winner_by_illegal end.Limit = None
winner_by_illegal (end.Engine side why) = None

-- the winner of a match: that of its record's judgement where it names one, else the side against
-- which the other's answer was unlawful, else none
abbrev pub winner_of : Judged → MatchEnd → Option Color
winner_of (judgement.Lawful history turns (Some ending) next) how = Some ending.winner
winner_of (judgement.Lawful history turns None next) how = winner_by_illegal how
winner_of (judgement.Bad line label rule) how = winner_by_illegal how

-- a match reached the limit of the game
abbrev pub is_at_limit : MatchEnd → Bool
is_at_limit end.Limit = true
is_at_limit (end.Won winner why) = false
is_at_limit (end.Engine side why) = false

-- the side whose engine failed, if one did
abbrev pub faulty_side : MatchEnd → Option Color
faulty_side (end.Engine side why) = Some side
faulty_side (end.Won winner why) = None
faulty_side end.Limit = None

-- what a match counts in the table
abbrev pub table_count : MeetMatch → Counted
table_count m = record {
  pair = m.pair;
  winner = winner_of m.judged m.done.ending;
  at_limit = is_at_limit m.done.ending;
  faulty = faulty_side m.done.ending;
}

-- the side that has won by the match's own end, which its record's judgement bears out
abbrev pub winner_at : MatchEnd → Option Color
winner_at (end.Won winner why) = Some winner
winner_at end.Limit = None
winner_at (end.Engine side why) = None

-- what a match of these programs that has ended so counts
abbrev pub counted_by : Pair → MatchEnd → Counted
counted_by pair how = record {
  pair = pair;
  winner = winner_at how;
  at_limit = is_at_limit how;
  faulty = faulty_side how;
}

-- the other side of one that has won
abbrev pub loser : Option Color → Option Color
loser (Some Gold) = Some Silver
loser (Some Silver) = Some Gold
loser None = None

-- a side is there, and this program plays it
abbrev pub is_of : ℕ → Pair → Option Color → Bool
is_of program pair (Some side) = program_at pair side == program
is_of program pair None = false

-- a program has won
abbrev pub is_win_of : ℕ → Counted → Bool
is_win_of program m = is_of program m.pair m.winner

-- a program has lost
abbrev pub is_loss_of : ℕ → Counted → Bool
is_loss_of program m = is_of program m.pair (loser m.winner)

-- a program played, and the limit was reached
abbrev pub is_limit_of : ℕ → Counted → Bool
is_limit_of program m = m.at_limit && (m.pair.gold == program || m.pair.silver == program)

-- a program's engine failed
abbrev pub is_fault_of : ℕ → Counted → Bool
is_fault_of program m = is_of program m.pair m.faulty

-- the row of a program: how many matches it has won and lost, how many of its matches reached the
-- limit, and in how many its engine failed
abbrev pub score_of : ℕ → List Counted → Score
score_of program matches = record {
  wins = count_by (is_win_of program) matches;
  losses = count_by (is_loss_of program) matches;
  limits = count_by (is_limit_of program) matches;
  faults = count_by (is_fault_of program) matches;
}
