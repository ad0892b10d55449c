-- The texts of turns and of setups, and what is wrong with other texts.
use Rattle.std.specs.Prelude.{◌≡◌, ◌⊎◌, ℕ, ◌-◌, ◌<◌, ◌≤◌, List, [], length, take, IfSome, Result, Ok, Err}
use Rattle.std.specs.List.{AllByRecursion}
use Rattle.std.specs.List.Sorted.{IsPermutation}
use Rattle.arimaa_board.specs.declared.piece.Color.{Color}
use Rattle.arimaa_board.specs.declared.piece.Piece.{Piece}
use Rattle.arimaa_board.specs.declared.turn.NotedStep.{NotedStep}
use Rattle.arimaa_board.specs.Setup.{Lineup, IsLineup, IsSetup}
use Rattle.arimaa_notation.specs.declared.fault.NoteFault.{NoteFault}
use Rattle.arimaa_notation.specs.declared.fault.NoteFault.TheVariants.{Token, Steps, Setup}
use Rattle.arimaa_notation.specs.Items.{items_of}
use Rattle.arimaa_notation.specs.Written.{items_of_turn, items_of_entries}

-- the squares of a step and of its mark are squares of the board
abbrev pub IsOnBoard : NotedStep → Type 0
IsOnBoard n = (n.step.from < 64) × IfSome n.mark (λ m. m.1 < 64)

-- these items are these steps, each with its mark directly after it
pub record AreSteps (items : List (List ℕ)) (ns : List NotedStep) : Type 0 where
  pub spelled : items ≡ items_of_turn ns
  pub on_board : AllByRecursion IsOnBoard ns

-- a text of a turn: one to four steps, with any blanks between its items and at its ends
pub record IsTurnText (bytes : List ℕ) (ns : List NotedStep) : Type 0 where
  pub steps : AreSteps (items_of bytes) ns
  pub some : 0 < length ns
  pub few : length ns ≤ 4

-- the items before this one, counted from 1, are steps with their marks, and with it they are not
pub record IsFirstBadItem (items : List (List ℕ)) (number : ℕ) : Type 0 where
  pub before : (ns : List NotedStep) × AreSteps (take (number - 1) items) ns
  pub bad : (ns : List NotedStep) → ¬ AreSteps (take number items) ns

-- the item of a turn that is named: the first bad one, or the first of a text that has none at all
abbrev pub IsNamedItem : List (List ℕ) → ℕ → Type 0
IsNamedItem items number = ((items ≡ []) × (number ≡ 1)) ⊎ IsFirstBadItem items number

-- more steps than a turn has
abbrev pub AreTooManySteps : List (List ℕ) → Type 0
AreTooManySteps items = (ns : List NotedStep) × AreSteps items ns × (4 < length ns)

-- what the items of a turn are read as
abbrev pub IsTurnReading : List (List ℕ) → Result (List NotedStep) NoteFault → Type 0
IsTurnReading items (Ok ns) = AreSteps items ns × (0 < length ns) × (length ns ≤ 4)
IsTurnReading items (Err (Token number)) = IsNamedItem items number
IsTurnReading items (Err Steps) = AreTooManySteps items
IsTurnReading items (Err Setup) = ⊥

-- these items are these entries
pub record AreEntries (items : List (List ℕ)) (es : List (ℕ × Piece)) : Type 0 where
  pub spelled : items ≡ items_of_entries es
  pub on_board : AllByRecursion (λ e. e.0 < 64) es

-- a text of a setup of this side: its sixteen entries in any order, with any blanks between and at
-- the ends
pub record IsSetupText (bytes : List ℕ) (color : Color) (s : Lineup) : Type 0 where
  pub entries : (es : List (ℕ × Piece)) × AreEntries (items_of bytes) es × IsPermutation es s.pairs
  pub side : s.color ≡ color
  pub rule : IsLineup s

-- the items before this one, counted from 1, are entries, and with it they are not
pub record IsFirstBadEntry (items : List (List ℕ)) (number : ℕ) : Type 0 where
  pub before : (es : List (ℕ × Piece)) × AreEntries (take (number - 1) items) es
  pub bad : (es : List (ℕ × Piece)) → ¬ AreEntries (take number items) es

-- entries that are no setup of this side
abbrev pub AreNoSetup : List (List ℕ) → Color → Type 0
AreNoSetup items color = (es : List (ℕ × Piece)) × AreEntries items es × (¬ IsSetup color es)

-- what the items of a setup of this side are read as
abbrev pub IsSetupReading : List (List ℕ) → Color → Result Lineup NoteFault → Type 0
IsSetupReading items color (Ok s) =
    ((es : List (ℕ × Piece)) × AreEntries items es × IsPermutation es s.pairs) × (s.color ≡ color)
    × IsLineup s
IsSetupReading items color (Err (Token number)) = IsFirstBadEntry items number
IsSetupReading items color (Err Setup) = AreNoSetup items color
IsSetupReading items color (Err Steps) = ⊥
