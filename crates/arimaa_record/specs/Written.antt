-- The written form of records.
use Rattle.std.specs.Prelude.{◌≡◌, ◌≤◌, ◌<◌, ℕ, List, [], ◌∷◌, ◌++◌, codes, length}
use Rattle.std.specs.List.{flat_map}
use Rattle.arimaa_board.specs.Fit.{IsFit}
use Rattle.arimaa_board.specs.Text.{text_of}
use Rattle.arimaa_notation.specs.Written.{items_of_turn, items_of_entries, items_text}
use Rattle.arimaa_record.specs.declared.line.RecordLine.{RecordLine}
use Rattle.arimaa_record.specs.declared.line.RecordLine.TheVariants as line
use Rattle.arimaa_record.specs.Label.{label_of, text_of_label}
use Rattle.arimaa_record.specs.Grammar.{text_of_word, takeback_word}

-- what a line is written of: its label, and then the board, or the entries in order of square, or
-- each step with its mark directly after it, or the word
abbrev pub parts_of_line : RecordLine → List (List ℕ)
parts_of_line line.Blank = []
parts_of_line (line.Start number side board) = codes "start" ∷ text_of_label
    (label_of number side) ∷ text_of board ∷ []
parts_of_line (line.Setup number side setup) = text_of_label
    (label_of number side) ∷ items_of_entries setup.pairs
parts_of_line (line.Turn number side noted) = text_of_label
    (label_of number side) ∷ items_of_turn noted
parts_of_line (line.Closing number side word) = text_of_label
    (label_of number side) ∷ text_of_word word ∷ []
parts_of_line (line.Bare number side) = text_of_label (label_of number side) ∷ []
parts_of_line (line.Takeback number side) = text_of_label
    (label_of number side) ∷ takeback_word ∷ []

-- the written form of a line without its end: its parts with one space between each two
abbrev pub text_of_line : RecordLine → List ℕ
text_of_line l = items_text (parts_of_line l)

-- a space before each of these
abbrev pub with_spaces_before : List (List ℕ) → List ℕ
with_spaces_before parts = flat_map (λ part. 32 ∷ part) parts

-- a line with the line feed that ends it
abbrev pub ended_line : RecordLine → List ℕ
ended_line l = text_of_line l ++ 10 ∷ []

-- the written form of a record: its lines, each ended by a line feed
abbrev pub text_of_record : List RecordLine → List ℕ
text_of_record lines = flat_map ended_line lines

-- the number of a label in range
pub record IsInRange (number : ℕ) : Type 0 where
  pub least : 1 ≤ number
  pub most : number ≤ 999999999

-- what is written to be read back: labels in range, fit boards, setups of the label's side, turns
-- with a step
abbrev pub IsWritable : RecordLine → Type 0
IsWritable line.Blank = Unit {0}
IsWritable (line.Start number side board) = IsInRange number × IsFit board
IsWritable (line.Setup number side setup) = IsInRange number × (setup.color ≡ side)
IsWritable (line.Turn number side noted) = IsInRange number × (0 < length noted)
IsWritable (line.Closing number side word) = IsInRange number
IsWritable (line.Bare number side) = IsInRange number
IsWritable (line.Takeback number side) = IsInRange number
