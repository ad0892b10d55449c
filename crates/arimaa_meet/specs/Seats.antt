-- What a worker's spawner and clock tell, and the matches that were played over them.
use Rattle.std.specs.Prelude.{◌≡◌, ℕ, List, [], ◌∷◌, Option}
use Rattle.arimaa_outside.specs.Counts.{Counts}
use Rattle.arimaa_outside.specs.declared.open_answer.OpenAnswer.{OpenAnswer}
use Rattle.arimaa_outside.specs.declared.port_answer.PortAnswer.{PortAnswer}
use Rattle.arimaa_time.specs.declared.control.Control.{Control}
use Rattle.arimaa_match.specs.Programs.{HasSpawnerCause, ProgramsWent, Spawned, spawned_of}
use Rattle.arimaa_meet.specs.Matches.{MeetMatch, outcome_of}
use Rattle.arimaa_meet.specs.Pairs.{programs_of}

-- what a spawner tells and counts, and what a clock tells
pub record Seat (L : Type 0) : Type 0 where
  pub spawned : Spawned L
  pub counts : Counts
  pub given : Option (List ℕ)

-- what this spawner and this clock tell and count, by the words for it
abbrev pub seat_of : {S K L : Type 0} → (S → Option (List L)) → (S → Option (List L))
    → (S → Option (List OpenAnswer)) → (S → Counts) → (K → Option (List ℕ)) → S → K → Seat L
seat_of waiting back answers counts given s k = record {
  spawned = spawned_of waiting back answers s;
  counts = counts s;
  given = given k;
}

-- what the matches of a meet are played under: the words that ask for it, which name the programs,
-- and the time control
pub record Terms : Type 0 where
  pub words : List (List ℕ)
  pub control : Control

module _ {L : Type 0} (sent : L → Option (List (List ℕ))) (answers : L → Option (List PortAnswer))
    (counts : L → Counts) (terms : Terms) where
  -- a match was played over a spawner and a clock between the programs of its pair: what came of
  -- it is what the fold over the answers and the moments gives, and an engine's fault has its cause
  -- in what the spawner counted
  pub record PlaysMatch (old new : Seat L) (m : MeetMatch) : Type 0 where
    pub went : ProgramsWent sent answers counts terms.control (programs_of terms.words m.pair)
        old.spawned new.spawned old.given new.given (outcome_of m)
    pub cause : HasSpawnerCause old.counts new.counts m.done.ending

  -- matches were played so, one after another
  abbrev pub PlaysMatches : Seat L → Seat L → List MeetMatch → Type 0
  PlaysMatches old new [] = new ≡ old
  PlaysMatches old new (m ∷ later) =
      (next : Seat L) × PlaysMatch old next m × PlaysMatches next new later
