-- What comes of a meet.
use Rattle.std.specs.Prelude.{◌≡◌, ◌≢◌, ◌<◌, ◌⊎◌, ℕ, List, Option, length, map, slice_index_or}
use Rattle.arimaa_outside.specs.Counts.{Counts}
use Rattle.arimaa_outside.specs.declared.port_answer.PortAnswer.{PortAnswer}
use Rattle.arimaa_outside.specs.declared.status.Status.{Status}
use Rattle.arimaa_outside.specs.declared.status.Status.TheVariants.{Done, Memory, WriteFault}
use Rattle.arimaa_meet.specs.declared.words.Asked.{Asked}
use Rattle.arimaa_meet.specs.Matches.{IsJudgedMatch, MeetMatch}
use Rattle.arimaa_meet.specs.Pairs.{pairs_of}
use Rattle.arimaa_meet.specs.Report.{text_of_report}
use Rattle.arimaa_meet.specs.Seats.{Seat}
use Rattle.arimaa_meet.specs.Shares.{PlayDealt}
use Rattle.arimaa_outside.specs.Writing.{EndsWith}

module _ {S K L : Type 0} (sent : L → Option (List (List ℕ)))
    (answers : L → Option (List PortAnswer)) (counts : L → Counts) (seat : S → K → Seat L)
    (words : List (List ℕ)) (asked : Asked)
    (spawners later_spawners : List S) (clocks later_clocks : List K) where
  -- a meet was played, and this is its report
  pub record IsReport (text : List ℕ) : Type 0 where
    -- the matches, in order, each between the programs of its pair: what came of those of each
    -- worker is what the fold over the answers and the moments of its own spawner and clock gives
    pub matches : List MeetMatch
    pub plays : PlayDealt sent answers counts seat
        (record { words = words; control = asked.control })
        spawners later_spawners clocks later_clocks matches
    -- each program plays each other one
    pub pairs : map (λ m. m.pair) matches ≡ pairs_of asked.programs
    -- the judge says so of their records
    pub judged : (k : ℕ) (m : MeetMatch) → k < length matches
        → IsJudgedMatch (slice_index_or matches k m)
    pub text_so : text ≡ text_of_report asked.programs matches

  -- how a meet went and what was told of it, by what the spawners and clocks tell and count before
  -- and after, and the bytes of the sink
  pub record MeetPlayed (result : Status) (before after : Option (List ℕ)) : Type 0 where
    -- unless memory ran out, the report was written, whole unless a write failed
    pub report : result ≢ Memory
        → (text : List ℕ) × IsReport text × EndsWith result before after Done text
    -- where memory ran out, nothing was
    pub unwritten : result ≡ Memory → after ≡ before
    pub others : (result ≡ Done) ⊎ ((result ≡ WriteFault) ⊎ (result ≡ Memory))
