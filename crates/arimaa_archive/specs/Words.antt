-- The words of a run.
use Rattle.std.specs.Prelude.{◌≡◌, ◌≤◌, ◌⊎◌, ℕ, List, [], ◌∷◌, codes, length, slice_get, Some}
use Rattle.std.specs.Fmt.{decimal}
use Rattle.arimaa_archive.specs.declared.words.TheConstants.{MOST_WORKERS, USUAL_WORKERS}

-- there are two words, the first of which is the option
pub record HaveOption (words : List (List ℕ)) : Type 0 where
  pub first : slice_get words 0 ≡ Some (codes "--workers")
  pub size : length words ≡ 2

-- the words ask for so many workers: no words for the usual number, or the option and a number
abbrev pub AskFor : List (List ℕ) → ℕ → Type 0
AskFor words workers =
    ((words ≡ []) × (workers ≡ USUAL_WORKERS))
    ⊎ ((words ≡ codes "--workers" ∷ decimal workers ∷ [])
    × (1 ≤ workers) × (workers ≤ MOST_WORKERS))

-- the words are in form
abbrev pub AreInForm : List (List ℕ) → Type 0
AreInForm words = (workers : ℕ) × AskFor words workers

-- the words are not in form
abbrev pub AreMisformed : List (List ℕ) → Type 0
AreMisformed words = (workers : ℕ) → AskFor words workers → ⊥
