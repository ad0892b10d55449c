-- An archive: records, each after a line that says `game`.
use Rattle.std.specs.Prelude.{◌≡◌, ◌≤◌, ℕ, ◌+◌, ◌==◌, Bool, false, not, List, [], ◌∷◌, ◌++◌, Option, None, Some, codes, drop, length, slice_range, take, if◌then◌else◌}
use Rattle.std.specs.Str.{bytes_eq}
use Rattle.arimaa_notation.specs.Items.{without_outer_blanks, word_of}
use Rattle.arimaa_record.specs.Lines.{lines_of}
use Rattle.arimaa_archive.specs.declared.parts.Part.{Part}

-- a line that begins a record: without the blanks at its ends it is `game`
abbrev pub is_game_line : List ℕ → Bool
is_game_line line = bytes_eq (without_outer_blanks line) (codes "game")

-- an item that begins no comment; a line without items has no first one
abbrev pub says_something : List ℕ → Bool
says_something [] = false
says_something (first ∷ later) = not (first == 35)

-- a line with content: it has an item, and the first one doesn't begin with '#'
abbrev pub has_content : List ℕ → Bool
has_content line = says_something (word_of line)

-- the lines before the first one that begins a record
abbrev pub lines_before_game : List (List ℕ) → List (List ℕ)
lines_before_game [] = []
lines_before_game (line ∷ lines) =
    if is_game_line line then [] else line ∷ lines_before_game lines

-- the records, as their lines: after each line that begins one, the lines up to the next such line
abbrev pub records_of : List (List ℕ) → List (List (List ℕ))
records_of [] = []
records_of (line ∷ lines) =
    if is_game_line line then lines_before_game lines ∷ records_of lines else records_of lines

-- the number of the first line with content, where the first of these lines has this number
abbrev pub first_content : ℕ → List (List ℕ) → Option ℕ
first_content number [] = None
first_content number (line ∷ lines) =
    if has_content line then Some number else first_content (number + 1) lines

-- the number of the first line with content that belongs to no record, counted from 1
abbrev pub stray_line : List (List ℕ) → Option ℕ
stray_line lines = first_content 1 (lines_before_game lines)

-- a part lies within this many bytes
pub record IsWithin (size : ℕ) (part : Part) : Type 0 where
  pub ordered : part.start ≤ part.end
  pub bounded : part.end ≤ size

-- the lines of a part of the bytes
abbrev pub lines_of_part : List ℕ → Part → List (List ℕ)
lines_of_part bytes part = lines_of (slice_range bytes part.start part.end)

-- the records of the bytes, the first of which begins at this place, if there is one
abbrev pub records_from : List ℕ → Option ℕ → List (List (List ℕ))
records_from bytes None = []
records_from bytes (Some place) =
    lines_before_game (lines_of (drop place bytes)) ∷ records_of (lines_of (drop place bytes))

-- a place in what follows a start, as a place in all
abbrev pub place_from : ℕ → Option ℕ → Option ℕ
place_from start None = None
place_from start (Some place) = Some (start + place)

-- a line begins at this place, or all ends there, and no line before it begins a record
pub record IsLineStart (bytes : List ℕ) (at : ℕ) : Type 0 where
  pub within : at ≤ length bytes
  -- the lines before the first record are those up to here, and then those of what follows
  pub before : lines_before_game (lines_of bytes)
      ≡ lines_of (take at bytes) ++ lines_before_game (lines_of (drop at bytes))
  pub records : records_of (lines_of bytes) ≡ records_of (lines_of (drop at bytes))
  -- the lines of a longer front are those up to here, and then those of what follows
  pub apart : (m : ℕ) → lines_of (take (at + m) bytes)
      ≡ lines_of (take at bytes) ++ lines_of (take m (drop at bytes))
