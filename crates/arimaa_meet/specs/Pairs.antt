-- The matches of a meet, by the numbers of their two programs.
use Rattle.std.specs.Prelude.{ℕ, zero, suc, ◌==◌, not, List, [], ◌∷◌, ◌++◌, map, filter, slice_get}
use Rattle.std.specs.List.{flat_map}
use Rattle.std.specs.Option.{unwrap_or}
use Rattle.arimaa_board.specs.declared.piece.Color.{Color}
use Rattle.arimaa_board.specs.declared.piece.Color.TheVariants.{Gold, Silver}
use Rattle.arimaa_match.specs.Programs.{Programs}
use Rattle.arimaa_meet.specs.declared.pairs.Pair.{Pair}

-- the numbers from 1 up to this one
abbrev pub numbers : ℕ → List ℕ
numbers zero = []
numbers (suc n) = numbers n ++ suc n ∷ []

-- the numbers from 0 on that are below this one
abbrev pub numbers_below : ℕ → List ℕ
numbers_below zero = []
numbers_below (suc n) = numbers_below n ++ n ∷ []

-- the program of a side
abbrev pub program_at : Pair → Color → ℕ
program_at pair Gold = pair.gold
program_at pair Silver = pair.silver

-- the word that names the program of this number: the words of a meet are its time control, and
-- then its programs, from number 1 on
abbrev pub program_word : List (List ℕ) → ℕ → List ℕ
program_word words number = unwrap_or (slice_get words number) []

-- the words that name the programs of a pair
abbrev pub programs_of : List (List ℕ) → Pair → Programs
programs_of words pair = record {
  gold = program_word words pair.gold;
  silver = program_word words pair.silver;
}

-- the pairs in which this program plays Gold, with each other one in order
abbrev pub pairs_with_gold : ℕ → ℕ → List Pair
pairs_with_gold programs gold =
    map (λ silver. record { gold = gold; silver = silver })
    (filter (λ silver. not (silver == gold)) (numbers programs))

-- the pairs of so many programs: each with each other one, by the number of the program that plays
-- Gold, and then by that of the other
abbrev pub pairs_of : ℕ → List Pair
pairs_of programs = flat_map (pairs_with_gold programs) (numbers programs)
