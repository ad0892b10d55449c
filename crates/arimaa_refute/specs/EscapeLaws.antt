-- Laws on escapes, as facts for contracts.
use Rattle.std.specs.Prelude.{◌≡◌, ℕ, ◌≤◌, List, false}
use Rattle.arimaa_board.specs.declared.piece.Color.{Color}
use Rattle.arimaa_board.specs.declared.position.Position.{Position}
use Rattle.arimaa_model.specs.Wins.{wins}
use Rattle.arimaa_model.specs.Strategies.{Planned}
use Rattle.arimaa_forced.specs.Acceptance.{Accepts}
use Rattle.arimaa_refute.specs.declared.escape.Escape.{Escape}
use Rattle.arimaa_refute.specs.Escapes.{Holds}
use Rattle.arimaa_refute.specs.OwnEscapes.{escapes_of}

-- where escapes hold the root, it is not won within n turns
abbrev pub HeldIsNotWon : Type 0
HeldIsNotWon =
    (a : Color) (barred : List Position) (p : Position) (n : ℕ) (c : List Escape)
    → Holds a barred n c p → wins a barred n p ≡ false

-- and no strategy is accepted that says so
abbrev pub HeldHasNoStrategy : Type 0
HeldHasNoStrategy =
    (a : Color) (barred : List Position) (p : Position) (n : ℕ) (c : List Escape)
    (s : List Planned) → Holds a barred n c p → Accepts a barred n s p → ⊥

-- nor is it won within fewer turns
abbrev pub HeldForFewer : Type 0
HeldForFewer =
    (a : Color) (barred : List Position) (p : Position) (m n : ℕ) (c : List Escape) → m ≤ n
    → Holds a barred n c p → wins a barred m p ≡ false

-- where a position is not won within n turns, its own escapes hold it
abbrev pub OwnEscapesHold : Type 0
OwnEscapesHold =
    (a : Color) (barred : List Position) (p : Position) (n : ℕ) → n ≤ 20
    → wins a barred n p ≡ false → Holds a barred n (escapes_of a barred n p) p
