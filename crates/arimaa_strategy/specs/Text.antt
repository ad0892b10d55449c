-- Texts of strategies: a line an entry, among lines that say nothing.
use Rattle.std.specs.Prelude.{◌≡◌, ℕ, ◌+◌, ◌≤◌, List, [], ◌∷◌, ◌++◌, length, true, Option, None, Some, slice_index, Result, Ok, Err}
use Rattle.std.specs.List.{filter_map}
use Rattle.std.specs.Fmt.{decimal}
use Rattle.arimaa_board.specs.declared.board.Board.{Board}
use Rattle.arimaa_board.specs.declared.piece.Color.{Color}
use Rattle.arimaa_board.specs.declared.turn.NotedStep.{NotedStep}
use Rattle.arimaa_board.specs.Text.{IsBoardText}
use Rattle.arimaa_notation.specs.Items.{is_blank, IsFirstItem}
use Rattle.arimaa_notation.specs.Grammar.{IsTurnText}
use Rattle.arimaa_notation.specs.Items.{without_first_blanks}
use Rattle.arimaa_record.specs.Lines.{lines_of}
use Rattle.arimaa_record.specs.Grammar.{IsBlankLine}
use Rattle.arimaa_forced.specs.declared.entry.Entry.{Entry}
use Rattle.arimaa_strategy.specs.declared.fault.StrategyFault.{StrategyFault}
use Rattle.arimaa_strategy.specs.declared.fault.StrategyFault.TheVariants as fault

-- what follows the rank: after blanks the text of the board, and after a blank the text of the turn
pub record IsBoardAndTurn (rest : List ℕ) (b : Board) (ns : List NotedStep) : Type 0 where
  pub board : List ℕ
  pub turn : List ℕ
  pub cut : without_first_blanks rest ≡ board ++ turn
  pub shown : IsBoardText board b
  pub apart : is_blank (slice_index turn 0) ≡ true
  pub played : IsTurnText turn ns

-- a line of an entry, without its end: the rank from 0 to 99, the board, and the turn, the attacker
-- being to move
pub record IsEntryText (bytes : List ℕ) (a : Color) (e : Entry) : Type 0 where
  pub rest : List ℕ
  pub rank : IsFirstItem bytes (decimal e.rank) rest
  pub small : e.rank ≤ 99
  pub side : e.position.side ≡ a
  pub play : IsBoardAndTurn rest e.position.board e.turn

-- what a line says: nothing, where it is of blanks alone or a comment, and else an entry
abbrev pub IsLineOf : Color → List ℕ → Option Entry → Type 0
IsLineOf a line None = IsBlankLine line
IsLineOf a line (Some e) = IsEntryText line a e

-- these lines say these things, one each, in order
abbrev pub AreLinesOf : Color → List (List ℕ) → List (Option Entry) → Type 0
AreLinesOf a [] [] = Unit {0}
AreLinesOf a [] (o ∷ os) = ⊥
AreLinesOf a (line ∷ lines) [] = ⊥
AreLinesOf a (line ∷ lines) (o ∷ os) = IsLineOf a line o × AreLinesOf a lines os

-- a text of a strategy: its lines say nothing or an entry each, and these are its entries in order
pub record IsStrategyText (bytes : List ℕ) (a : Color) (s : List Entry) : Type 0 where
  pub said : List (Option Entry)
  pub lines : AreLinesOf a (lines_of bytes) said
  pub entries : s ≡ filter_map (λ o. o) said

-- the line of this number, counted from 1, is the first that says neither nothing nor an entry
pub record IsFirstBadLine (a : Color) (lines : List (List ℕ)) (number : ℕ) : Type 0 where
  pub before : List (List ℕ)
  pub line : List ℕ
  pub after : List (List ℕ)
  pub split : lines ≡ before ++ line ∷ after
  pub counted : number ≡ length before + 1
  pub said : List (Option Entry)
  pub good : AreLinesOf a before said
  pub bad : (o : Option Entry) → ¬ IsLineOf a line o

-- what a text is read as, where there is memory
abbrev pub IsStrategyReading : List ℕ → Color → Result (List Entry) StrategyFault → Type 0
IsStrategyReading bytes a (Ok s) = IsStrategyText bytes a s
IsStrategyReading bytes a (Err (fault.Text number)) = IsFirstBadLine a (lines_of bytes) number
IsStrategyReading bytes a (Err fault.Memory) = Unit {0}
