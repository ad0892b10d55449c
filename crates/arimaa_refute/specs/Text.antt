-- Texts of escapes: those of strategies, with a depth from 1 to 20 in the place of the rank, and
-- the defender to move.
use Rattle.std.specs.Prelude.{◌≡◌, ◌⊎◌, ℕ, ◌+◌, ◌≤◌, List, ◌∷◌, ◌++◌, length, map, Result, Ok, Err}
use Rattle.std.specs.List.{AllByRecursion}
use Rattle.arimaa_board.specs.declared.piece.Color.{Color}
use Rattle.arimaa_board.specs.Piece.{other_color}
use Rattle.arimaa_board.specs.Fit.{IsFit}
use Rattle.arimaa_record.specs.Lines.{lines_of}
use Rattle.arimaa_record.specs.Grammar.{IsBlankLine}
use Rattle.arimaa_forced.specs.declared.entry.Entry.{Entry}
use Rattle.arimaa_strategy.specs.Text.{IsEntryText, IsStrategyText}
use Rattle.arimaa_strategy.specs.WrittenForm.{text_of_strategy}
use Rattle.arimaa_refute.specs.declared.escape.Escape.{Escape}
use Rattle.arimaa_refute.specs.declared.fault.EscapeFault.{EscapeFault}
use Rattle.arimaa_refute.specs.declared.fault.EscapeFault.TheVariants as fault
use Rattle.arimaa_refute.specs.Escapes.{entry_of}

-- the escape has a depth from 1 to 20
pub record HasDepth (e : Escape) : Type 0 where
  pub deep : 1 ≤ e.depth
  pub small : e.depth ≤ 20

-- a line of an escape from the attacker a, without its end: its depth, the board, and the turn, the
-- defender being to move
pub record IsEscapeText (bytes : List ℕ) (a : Color) (e : Escape) : Type 0 where
  pub entry : IsEntryText bytes (other_color a) (entry_of e)
  pub depth : HasDepth e

-- a line that says nothing, or an escape
abbrev pub IsGoodLine : Color → List ℕ → Type 0
IsGoodLine a line = IsBlankLine line ⊎ ((e : Escape) × IsEscapeText line a e)

-- a text of escapes: its lines say nothing or an escape each, and these are its escapes in order
pub record IsEscapesText (bytes : List ℕ) (a : Color) (c : List Escape) : Type 0 where
  pub entries : IsStrategyText bytes (other_color a) (map entry_of c)
  pub depths : AllByRecursion HasDepth c

-- the line of this number, counted from 1, is the first that says neither nothing nor an escape
pub record IsFirstBadLine (a : Color) (lines : List (List ℕ)) (number : ℕ) : Type 0 where
  pub before : List (List ℕ)
  pub line : List ℕ
  pub after : List (List ℕ)
  pub split : lines ≡ before ++ line ∷ after
  pub counted : number ≡ length before + 1
  pub good : AllByRecursion (IsGoodLine a) before
  pub bad : ¬ IsGoodLine a line

-- what a text is read as, where there is memory
abbrev pub IsEscapesReading : List ℕ → Color → Result (List Escape) EscapeFault → Type 0
IsEscapesReading bytes a (Ok c) = IsEscapesText bytes a c
IsEscapesReading bytes a (Err (fault.Text number)) = IsFirstBadLine a (lines_of bytes) number
IsEscapesReading bytes a (Err fault.Memory) = Unit {0}

-- a strategy whose entries are these escapes, with their depths as ranks
abbrev pub IsPlanOf : List Escape → List Entry → Type 0
IsPlanOf c s = s ≡ map entry_of c

-- the written form of escapes: in order, a line each
abbrev pub text_of_escapes : List Escape → List ℕ
text_of_escapes c = text_of_strategy (map entry_of c)

-- what is written to be read back: a depth from 1 to 20, the defender to move, and a fit board
pub record IsWritableEscape (a : Color) (e : Escape) : Type 0 where
  pub depth : HasDepth e
  pub side : e.position.side ≡ other_color a
  pub fit : IsFit e.position.board
