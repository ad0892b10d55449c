-- The matches that were played, what is told of them, and over whose spawners and clocks they were
-- played.
use Rattle.std.specs.Prelude.{◌≡◌, ◌<◌, ◌+◌, ◌%◌, ◌==◌, ℕ, List, [], ◌∷◌, Option, Vec, if◌then◌else◌, length, map, slice_index_or}
use Rattle.std.specs.List.{AllZip}
use Rattle.std.specs.declared.alloc.Global.{Global}
use Rattle.arimaa_outside.specs.Counts.{Counts}
use Rattle.arimaa_outside.specs.declared.port_answer.PortAnswer.{PortAnswer}
use Rattle.arimaa_match.specs.Texts.{text_of_match}
use Rattle.arimaa_meet.specs.declared.pairs.Pair.{Pair}
use Rattle.arimaa_meet.specs.declared.match_report.Told.{Told}
use Rattle.arimaa_meet.specs.Matches.{IsJudgedMatch, MeetMatch}
use Rattle.arimaa_meet.specs.Scores.{table_count}
use Rattle.arimaa_meet.specs.Seats.{PlaysMatch, PlaysMatches, Seat, Terms}

-- this is told of a match: its text and what it counts, and the judge says so of its record
pub record IsTold (m : MeetMatch) (told : Told) : Type 0 where
  pub text : told.text.items ≡ text_of_match m.done
  pub counted_so : told.counted ≡ table_count m
  pub judged : IsJudgedMatch m

-- the matches that are dealt to one of so many workers, where the first of these has this number:
-- those whose number, modulo that of the workers, is its own
abbrev pub dealt_from : {A : Type 0} → ℕ → ℕ → ℕ → List A → List A
dealt_from number worker workers [] = []
dealt_from number worker workers (m ∷ later) =
    if number % workers == worker
    then m ∷ dealt_from (number + 1) worker workers later
    else dealt_from (number + 1) worker workers later

-- the matches of one of so many workers, where they are counted from 0
abbrev pub dealt_to : {A : Type 0} → ℕ → ℕ → List A → List A
dealt_to worker workers matches = dealt_from 0 worker workers matches

-- what is told in each worker's share is told of these matches, which are those that are dealt to
-- it
pub record AreShares (pairs : List Pair) (of_worker : ℕ → List MeetMatch)
    (shares : List (Vec Told Global)) : Type 0 where
  pub programs : (w : ℕ) → w < length shares
      → map (λ m. m.pair) (of_worker w) ≡ dealt_to w (length shares) pairs
  pub telling : (w : ℕ) (d : Vec Told Global) → w < length shares
      → AllZip IsTold (of_worker w) (slice_index_or shares w d).items

-- this is told of all matches, in order, of which these are dealt to each of so many workers
pub record AreTold (pairs : List Pair) (workers : ℕ) (of_worker : ℕ → List MeetMatch)
    (told : List Told) : Type 0 where
  pub matches : List MeetMatch
  pub programs : map (λ m. m.pair) matches ≡ pairs
  pub telling : AllZip IsTold matches told
  pub dealt : (w : ℕ) → w < workers → dealt_to w workers matches ≡ of_worker w

module _ {L : Type 0} (sent : L → Option (List (List ℕ))) (answers : L → Option (List PortAnswer))
    (counts : L → Counts) where
  -- a match of these programs was played, and this is told of it
  pub record HasPlayedPair (terms : Terms) (pair : Pair) (old new : Seat L) (told : Told)
      : Type 0 where
    pub the_match : MeetMatch
    pub programs : the_match.pair ≡ pair
    pub plays : PlaysMatch sent answers counts terms old new the_match
    pub telling : IsTold the_match told

  -- the matches of these programs that are dealt to a worker were played, and this is told of them
  pub record HasPlayedShare (terms : Terms) (pairs : List Pair) (worker workers : ℕ)
      (old new : Seat L) (told : List Told) : Type 0 where
    pub matches : List MeetMatch
    pub programs : map (λ m. m.pair) matches ≡ dealt_to worker workers pairs
    pub telling : AllZip IsTold matches told
    pub plays : PlaysMatches sent answers counts terms old new matches

  module _ {S K : Type 0} (seat : S → K → Seat L) where
    -- each worker played the matches that are dealt to it, over its own spawner and clock, and this
    -- is told of them
    pub record HavePlayedShares (terms : Terms) (pairs : List Pair)
        (spawners later_spawners : List S) (clocks later_clocks : List K)
        (shares : List (Vec Told Global)) : Type 0 where
      pub each : (w : ℕ) (s : S) (k : K) (d : Vec Told Global) → w < length spawners
          → HasPlayedShare terms pairs w (length spawners)
          (seat (slice_index_or spawners w s) (slice_index_or clocks w k))
          (seat (slice_index_or later_spawners w s) (slice_index_or later_clocks w k))
          (slice_index_or shares w d).items
      pub share_count : length shares ≡ length spawners
      pub spawner_count : length later_spawners ≡ length spawners
      pub clock_count : length later_clocks ≡ length spawners

    -- each worker played the matches that are dealt to it, over its own spawner and clock
    abbrev pub PlayDealt : Terms → List S → List S → List K → List K → List MeetMatch → Type 0
    PlayDealt terms spawners later_spawners clocks later_clocks matches =
        (w : ℕ) (s : S) (k : K) → w < length spawners
        → PlaysMatches sent answers counts terms
        (seat (slice_index_or spawners w s) (slice_index_or clocks w k))
        (seat (slice_index_or later_spawners w s) (slice_index_or later_clocks w k))
        (dealt_to w (length spawners) matches)

    -- matches of these programs were played so, and this is told of them
    pub record HavePlayed (terms : Terms) (pairs : List Pair) (spawners later_spawners : List S)
        (clocks later_clocks : List K) (told : List Told) : Type 0 where
      pub matches : List MeetMatch
      pub programs : map (λ m. m.pair) matches ≡ pairs
      pub telling : AllZip IsTold matches told
      pub plays : PlayDealt terms spawners later_spawners clocks later_clocks matches
