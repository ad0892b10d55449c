-- The written form of steps, removal marks, turns and setups.
use Rattle.std.specs.Prelude.{ℕ, ◌+◌, ◌/◌, ◌%◌, List, [], ◌∷◌, map, Option, None, Some, ◌++◌}
use Rattle.std.specs.List.{flat_map}
use Rattle.arimaa_board.specs.declared.piece.Piece.{Piece}
use Rattle.arimaa_board.specs.declared.position.Step.{Step}
use Rattle.arimaa_board.specs.declared.square.Dir.{Dir}
use Rattle.arimaa_board.specs.declared.square.Dir.TheVariants.{North, East, South, West}
use Rattle.arimaa_board.specs.declared.turn.NotedStep.{NotedStep}
use Rattle.arimaa_board.specs.Piece.{letter_of}
use Rattle.arimaa_board.specs.Setup.{Lineup}

-- the column of a square, from 'a' to 'h'
abbrev pub column_of : ℕ → ℕ
column_of s = 97 + s % 8

-- the row of a square, from '1' to '8'
abbrev pub row_of : ℕ → ℕ
row_of s = 49 + s / 8

-- 'n', 'e', 's' or 'w'
abbrev pub letter_of_dir : Dir → ℕ
letter_of_dir North = 110
letter_of_dir East = 101
letter_of_dir South = 115
letter_of_dir West = 119

-- a step: letter, square, direction, as "Ed2n"
abbrev pub text_of_step : Step → List ℕ
text_of_step s = letter_of s.piece ∷ column_of s.from ∷ row_of s.from ∷ letter_of_dir s.dir ∷ []

-- a removal mark: letter, square, 'x', as "cc3x"
abbrev pub text_of_mark : Piece × ℕ → List ℕ
text_of_mark m = letter_of m.0 ∷ column_of m.1 ∷ row_of m.1 ∷ 120 ∷ []

-- an entry of a setup: letter and square, as "Ra1"
abbrev pub text_of_entry : ℕ × Piece → List ℕ
text_of_entry e = letter_of e.1 ∷ column_of e.0 ∷ row_of e.0 ∷ []

-- the mark after a step, if there is one
abbrev pub items_of_mark : Option (Piece × ℕ) → List (List ℕ)
items_of_mark None = []
items_of_mark (Some m) = text_of_mark m ∷ []

-- a step, and directly after it its mark
abbrev pub items_of_step : NotedStep → List (List ℕ)
items_of_step n = text_of_step n.step ∷ items_of_mark n.mark

-- the items of a turn: its steps in order, each with its mark
abbrev pub items_of_turn : List NotedStep → List (List ℕ)
items_of_turn ns = flat_map items_of_step ns

-- the items of a setup: its entries in order
abbrev pub items_of_entries : List (ℕ × Piece) → List (List ℕ)
items_of_entries es = map text_of_entry es

-- items with one space between each two
abbrev pub items_text : List (List ℕ) → List ℕ
items_text [] = []
items_text (item ∷ items) = item ++ flat_map (λ i. 32 ∷ i) items

-- a text with one more item at its end
abbrev pub with_item : List ℕ → List ℕ → List ℕ
with_item [] item = item
with_item (b ∷ bs) item = (b ∷ bs) ++ 32 ∷ item

-- the written form of a turn
abbrev pub text_of_turn : List NotedStep → List ℕ
text_of_turn ns = items_text (items_of_turn ns)

-- the written form of a setup, in order of square
abbrev pub text_of_setup : Lineup → List ℕ
text_of_setup s = items_text (items_of_entries s.pairs)
