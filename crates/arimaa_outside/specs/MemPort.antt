-- What a port in memory shows.
use Rattle.std.specs.Prelude.{ℕ, ◌∷◌, [], ◌++◌, List, length, drop, nat_le, if◌then◌else◌}
use Rattle.arimaa_outside.specs.Calls.{Tally, after_fault, after_success}
use Rattle.arimaa_outside.specs.Counts.{Counts, capped_sum}
use Rattle.arimaa_outside.specs.declared.port.TheConstants.{LINE_LIMIT}
use Rattle.arimaa_outside.specs.declared.port_answer.PortAnswer.{PortAnswer}
use Rattle.arimaa_outside.specs.declared.port_answer.PortAnswer.TheVariants as answer
use Rattle.arimaa_outside.specs.declared.speech.Said.{Said}
use Rattle.arimaa_outside.specs.declared.speech.Said.TheVariants as said

-- what is left of its script, the lines that it was sent, what it answered, its calls, its stops
-- and its lines
pub record Talking : Type 0 where
  pub left : List Said
  pub sent : List (List ℕ)
  pub answers : List PortAnswer
  pub calls : Tally
  pub stops : ℕ
  pub lines : ℕ

-- its three counts
abbrev pub port_counts : Talking → Counts
port_counts port = record { faults = port.calls.faults; stops = port.stops; lines = port.lines }

-- A line with more bytes than the limit is too long.
abbrev pub within_limit : Said → Said
within_limit (said.Line line) = if nat_le
    (length line) LINE_LIMIT then said.Line line else said.Long
within_limit said.Ended = said.Ended
within_limit said.Long = said.Long

-- What is heard next of a script: at its end, that nothing more comes.
abbrev pub next_said : List Said → Said
next_said [] = said.Ended
next_said (first ∷ later) = within_limit first

-- the stops once this was heard
abbrev pub stops_after : Said → ℕ → ℕ
stops_after (said.Line line) stops = stops
stops_after said.Ended stops = capped_sum stops 1
stops_after said.Long stops = capped_sum stops 1

-- the lines once this was heard
abbrev pub lines_after : Said → ℕ → ℕ
lines_after (said.Line line) lines = capped_sum lines 1
lines_after said.Ended lines = lines
lines_after said.Long lines = lines

-- the port once it was sent this line
abbrev pub after_sending : Talking → List ℕ → Talking
after_sending port line = record port {
  sent = port.sent ++ line ∷ [];
  answers = port.answers ++ answer.Sent ∷ [];
  calls = after_success port.calls;
}

-- the port once this was heard of it
abbrev pub after_hearing : Talking → Said → Talking
after_hearing port words = record port {
  left = drop 1 port.left;
  answers = port.answers ++ answer.Heard words ∷ [];
  calls = after_success port.calls;
  stops = stops_after words port.stops;
  lines = lines_after words port.lines;
}

-- the port once a call has failed
abbrev pub after_failing : Talking → Talking
after_failing port = record port
    { answers = port.answers ++ answer.Failed ∷ []; calls = after_fault port.calls }
