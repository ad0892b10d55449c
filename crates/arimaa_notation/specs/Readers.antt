-- What the texts of turns, of setups and of numbers are read as.
use Rattle.std.specs.Prelude.{ℕ, ◌+◌, ◌-◌, ◌*◌, ◌^◌, Bool, true, ◌==◌, ◌&&◌, nat_lt, nat_le, List, [], ◌∷◌, length, map, Option, None, Some, if◌then◌else◌}
use Rattle.std.specs.Fmt.{decimal}
use Rattle.std.specs.List.{find}
use Rattle.std.specs.Str.{bytes_eq}
use Rattle.std.specs.Str.Parse.{digits_value}
use Rattle.arimaa_board.specs.declared.piece.Color.{Color}
use Rattle.arimaa_board.specs.declared.piece.Piece.{Piece}
use Rattle.arimaa_board.specs.declared.position.Step.{Step}
use Rattle.arimaa_board.specs.declared.square.Dir.{Dir}
use Rattle.arimaa_board.specs.declared.turn.NotedStep.{NotedStep}
use Rattle.arimaa_board.specs.Piece.{code_of, piece_of_letter}
use Rattle.arimaa_board.specs.Setup.{Lineup, army, home_squares, pieces_in, squares_in}
use Rattle.arimaa_board.specs.Square.{directions}
use Rattle.arimaa_notation.specs.Items.{items_of}
use Rattle.arimaa_notation.specs.Written.{letter_of_dir}

-- the square of a column from 'a' to 'h' and a row from '1' to '8'
abbrev pub square_of : ℕ → ℕ → Option ℕ
square_of column row =
    if nat_le 97 column && nat_le column 104 && (nat_le 49 row && nat_le row 56)
    then Some ((column - 97) + 8 * (row - 49))
    else None

-- the direction of a letter, if there is one
abbrev pub dir_of_letter : ℕ → Option Dir
dir_of_letter b = find (λ d. letter_of_dir d == b) directions

-- a step of its parts, if each is one
abbrev pub step_of_parts : Option Piece → Option ℕ → Option Dir → Option Step
step_of_parts (Some p) (Some s) (Some d) = Some (record { piece = p; from = s; dir = d })
step_of_parts _ _ _ = None

-- the step that an item writes: letter, square and direction
abbrev pub step_of : List ℕ → Option Step
step_of (letter ∷ column ∷ row ∷ dir ∷ []) =
    step_of_parts (piece_of_letter letter) (square_of column row) (dir_of_letter dir)
step_of _ = None

-- a mark of its parts, if each is one and an 'x' follows
abbrev pub mark_of_parts : Option Piece → Option ℕ → Bool → Option (Piece × ℕ)
mark_of_parts (Some p) (Some s) true = Some (p, s)
mark_of_parts _ _ _ = None

-- the removal mark that an item writes: letter, square and 'x'
abbrev pub mark_of : List ℕ → Option (Piece × ℕ)
mark_of (letter ∷ column ∷ row ∷ cross ∷ []) =
    mark_of_parts (piece_of_letter letter) (square_of column row) (cross == 120)
mark_of _ = None

-- an entry of its parts, if each is one
abbrev pub entry_of_parts : Option Piece → Option ℕ → Option (ℕ × Piece)
entry_of_parts (Some p) (Some s) = Some (s, p)
entry_of_parts _ _ = None

-- the entry of a setup that an item writes: letter and square
abbrev pub entry_of : List ℕ → Option (ℕ × Piece)
entry_of (letter ∷ column ∷ row ∷ []) =
    entry_of_parts (piece_of_letter letter) (square_of column row)
entry_of _ = None

-- a step with its mark before other steps, where all are read
abbrev pub before_steps : Option Step → Option (Piece × ℕ) → Option (List NotedStep)
    → Option (List NotedStep)
before_steps (Some s) mark (Some ns) = Some (record { step = s; mark = mark } ∷ ns)
before_steps _ _ _ = None

-- a step before other steps: where the next item is a mark, it is the step's, and the steps after
-- it follow
abbrev pub with_next : Option Step → Option (Piece × ℕ) → Option (List NotedStep)
    → Option (List NotedStep) → Option (List NotedStep)
with_next step (Some mark) after_mark from_next = before_steps step (Some mark) after_mark
with_next step None after_mark from_next = before_steps step None from_next

-- steps in order, each with at most one mark directly after it
abbrev pub steps_of : List (List ℕ) → Option (List NotedStep)
steps_of [] = Some []
steps_of (item ∷ []) = before_steps (step_of item) None (Some [])
steps_of (item ∷ next ∷ items) =
    with_next (step_of item) (mark_of next) (steps_of items) (steps_of (next ∷ items))

-- one to four steps
abbrev pub if_turn : Option (List NotedStep) → Option (List NotedStep)
if_turn (Some ns) = if nat_lt 0 (length ns) && nat_le (length ns) 4 then Some ns else None
if_turn None = None

-- the turn that a text writes, if it writes one
unfoldable pub turn_of_text : List ℕ → Option (List NotedStep)
turn_of_text bytes = if_turn (steps_of (items_of bytes))

-- an entry before other entries, where all are read
abbrev pub before_entries : Option (ℕ × Piece) → Option (List (ℕ × Piece))
    → Option (List (ℕ × Piece))
before_entries (Some e) (Some es) = Some (e ∷ es)
before_entries _ _ = None

-- entries in order
abbrev pub entries_of : List (List ℕ) → Option (List (ℕ × Piece))
entries_of [] = Some []
entries_of (item ∷ items) = before_entries (entry_of item) (entries_of items)

module _ {X : Type 0} (number : X → ℕ) where
  -- one more element, before the first whose number is not smaller
  abbrev pub with_element : X → List X → List X
  with_element x [] = x ∷ []
  with_element x (y ∷ ys) = if nat_le (number x) (number y) then x ∷ y ∷ ys
      else y ∷ with_element x ys

  -- a list in the order of the elements' numbers
  abbrev pub in_order : List X → List X
  in_order [] = []
  in_order (x ∷ xs) = with_element x (in_order xs)

-- whether entries in order of square are a setup of a side: its home squares, and its pieces
unfoldable pub is_lineup : Color → List (ℕ × Piece) → Bool
is_lineup color pairs =
    bytes_eq (squares_in pairs) (home_squares color)
    && bytes_eq (map code_of (in_order code_of (pieces_in pairs))) (map code_of (army color))

-- the setup of a side with these entries, in order of square, if they are one
unfoldable pub lineup_of : Color → List (ℕ × Piece) → Option Lineup
lineup_of color es =
    let pairs = in_order (λ e. e.0) es in
    if is_lineup color pairs then Some (record { color = color; pairs = pairs }) else None

-- the setup of a side with the entries that were read
abbrev pub if_setup : Color → Option (List (ℕ × Piece)) → Option Lineup
if_setup color (Some es) = lineup_of color es
if_setup color None = None

-- the setup of a side that a text writes, if it writes one
unfoldable pub setup_of_text : Color → List ℕ → Option Lineup
setup_of_text color bytes = if_setup color (entries_of (items_of bytes))

-- the number below 2^64 whose decimal form a text is: no sign, and no zero before other digits
unfoldable pub number_of_text : List ℕ → Option ℕ
number_of_text bytes =
    let n = digits_value 10 bytes in
    if nat_lt n (2 ^ 64) && bytes_eq (decimal n) bytes then Some n else None
