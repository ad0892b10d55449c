-- The written form of strategies.
use Rattle.std.specs.Prelude.{◌≡◌, ◌≤◌, ℕ, List, [], ◌∷◌, ◌++◌}
use Rattle.std.specs.List.{flat_map}
use Rattle.std.specs.Fmt.{decimal}
use Rattle.arimaa_board.specs.declared.piece.Color.{Color}
use Rattle.arimaa_board.specs.Fit.{IsFit}
use Rattle.arimaa_board.specs.Text.{text_of}
use Rattle.arimaa_notation.specs.Written.{text_of_turn}
use Rattle.arimaa_forced.specs.declared.entry.Entry.{Entry}

-- the written form of an entry, without the end of its line: the rank, the board and the turn, with
-- one space between
abbrev pub text_of_entry : Entry → List ℕ
text_of_entry e = decimal e.rank ++ 32 ∷ text_of e.position.board ++ 32 ∷ text_of_turn e.turn

-- an entry with the line feed that ends its line
abbrev pub ended_entry : Entry → List ℕ
ended_entry e = text_of_entry e ++ 10 ∷ []

-- the written form of a strategy: its entries in order, a line each
abbrev pub text_of_strategy : List Entry → List ℕ
text_of_strategy es = flat_map ended_entry es

-- what is written to be read back: a rank of at most 99, the attacker to move, and a fit board
pub record IsWritable (a : Color) (e : Entry) : Type 0 where
  pub small : e.rank ≤ 99
  pub side : e.position.side ≡ a
  pub fit : IsFit e.position.board
