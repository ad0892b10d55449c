-- The words that ask for a meet.
use Rattle.std.specs.Prelude.{◌≡◌, ◌≢◌, ◌<◌, ◌≤◌, ℕ, List, ◌∷◌, length, slice_index, slice_index_or}
use Rattle.arimaa_time.specs.Fields.{IsControl}
use Rattle.arimaa_meet.specs.declared.words.Asked.{Asked}
use Rattle.arimaa_meet.specs.declared.words.TheConstants.{FEWEST_PROGRAMS, MOST_PROGRAMS}

-- a word that may name a program: it isn't empty, and begins with no dash
pub record IsProgram (word : List ℕ) : Type 0 where
  pub some : 0 < length word
  pub no_dash : slice_index word 0 ≢ 45

-- from a place on, each word may name a program
abbrev pub AreProgramsFrom : ℕ → List (List ℕ) → Type 0
AreProgramsFrom start words =
    (k : ℕ) (d : List ℕ) → start ≤ k → k < length words → IsProgram (slice_index_or words k d)

-- the words ask for a meet: a text that is this control's, and then so many programs
pub record AsksForMeet (words : List (List ℕ)) (asked : Asked) : Type 0 where
  pub text : List ℕ
  pub programs : List (List ℕ)
  pub form : words ≡ text ∷ programs
  pub control : IsControl text asked.control
  pub count : length programs ≡ asked.programs
  pub fewest : FEWEST_PROGRAMS ≤ asked.programs
  pub most : asked.programs ≤ MOST_PROGRAMS
  pub plain : AreProgramsFrom 0 programs

-- the words ask for no meet
abbrev pub AsksForNoMeet : List (List ℕ) → Type 0
AsksForNoMeet words = (asked : Asked) → AsksForMeet words asked → ⊥
