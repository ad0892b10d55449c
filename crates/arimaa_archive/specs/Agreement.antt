-- What is answered is one text with one status, for any number of workers.
use Rattle.std.specs.Prelude.{◌≡◌, ℕ, List}
use Rattle.arimaa_outside.specs.declared.status.Status.{Status}
use Rattle.arimaa_archive.specs.Calls.{IsAnswer}
use Rattle.arimaa_archive.specs.Words.{AreInForm}

-- given words are answered in at most one way over given bytes
abbrev pub AnswersAgree : Type 0
AnswersAgree =
    (words : List (List ℕ)) (given : List ℕ) (s t : Status) (a b : List ℕ)
    → IsAnswer words given s a → IsAnswer words given t b → (s ≡ t) × (a ≡ b)

-- over given bytes all words in form, whatever number of workers they ask for, have one answer
abbrev pub WorkersAgree : Type 0
WorkersAgree =
    (words others : List (List ℕ)) (given : List ℕ) (s t : Status) (a b : List ℕ)
    → AreInForm words → AreInForm others
    → IsAnswer words given s a → IsAnswer others given t b → (s ≡ t) × (a ≡ b)
