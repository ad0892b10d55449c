-- Lines: what they say, and when that is true.
use Rattle.std.specs.Prelude.{◌≡◌, ℕ, ◌≤◌, ◌⊎◌, List, [], ◌∷◌, length, slice_index}
use Rattle.arimaa_board.specs.declared.piece.Color.{Color}
use Rattle.arimaa_board.specs.declared.position.Position.{Position}
use Rattle.arimaa_line.specs.declared.bounds.Bounds.{Bounds}
use Rattle.arimaa_line.specs.declared.line.Line.{Line}
use Rattle.arimaa_line.specs.Bounds.{AreBounds, AreTrueBounds, KeepsBounds}
use Rattle.arimaa_line.specs.Words.{line_words}

-- the line of these words
abbrev pub line_of : List ℕ → Line
line_of ws = record { words = ws }

-- six zero words
abbrev pub empty_line : Line
empty_line = line_of (0 ∷ 0 ∷ 0 ∷ 0 ∷ 0 ∷ 0 ∷ [])

-- the line of bounds with a stamp
abbrev pub line_of_bounds : Bounds → ℕ → Line
line_of_bounds k stamp = line_of (line_words k stamp)

-- the last word
abbrev pub stamp_of : Line → ℕ
stamp_of l = slice_index l.words 5

-- the line says this: its words are those of the bounds with some stamp of at least 1
pub record IsLineOf (l : Line) (k : Bounds) : Type 0 where
  pub board : length k.position.board ≡ 64
  pub bounds : AreBounds k.low k.high
  pub stamp : 1 ≤ stamp_of l
  pub words : l ≡ line_of_bounds k (stamp_of l)

-- the line says these bounds, and they are on this position
abbrev pub Says : Line → Position → Bounds → Type 0
Says l p k = IsLineOf l k × (k.position ≡ p)

-- a line is true where it is empty, or says bounds that are right
unfoldable pub IsTrueLine : Color → List Position → Line → Type 0
IsTrueLine attacker barred l =
    (l ≡ empty_line) ⊎ ((k : Bounds) × IsLineOf l k × AreTrueBounds attacker barred k)

-- the line is empty, or says some bounds: so are all lines that are true somewhere
unfoldable pub IsLine : Line → Type 0
IsLine l = (l ≡ empty_line) ⊎ ((k : Bounds) × IsLineOf l k)

-- where the line names the position of these bounds, they lose and loosen none of its bounds
abbrev pub LosesNoBound : Line → Bounds → Type 0
LosesNoBound l new = (k : Bounds) → IsLineOf l k → k.position ≡ new.position → KeepsBounds k new
