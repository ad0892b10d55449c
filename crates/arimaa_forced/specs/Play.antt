-- Plays: the attacker's turns are those of the entries, the other side's are any lawful ones, and
-- the history grows.
use Rattle.std.specs.Prelude.{◌≡◌, ℕ, zero, suc, List, [], ◌∷◌, ◌++◌, Option, None, Some, IsTrue, MatchBool}
use Rattle.arimaa_board.specs.declared.piece.Color.{Color}
use Rattle.arimaa_board.specs.Board.{same_color}
use Rattle.arimaa_board.specs.declared.position.Position.{Position}
use Rattle.arimaa_board.specs.declared.ending.Ending.{Ending}
use Rattle.arimaa_model.specs.Game.{IsLawfulAt, ending_at, present}
use Rattle.arimaa_model.specs.Strategies.{Planned, answer_to}

-- the entry of p leads to a position that is lawful after this history, and then the rest holds
pub record HasAnswer (s : List Planned) (h : List Position) (p : Position)
    (Rest : Position → Type 0) : Type 0 where
  pub result : Position
  pub turn : answer_to s p ≡ Some result
  pub allowed : IsLawfulAt h p result
  pub rest : Rest result

-- the game has ended with a win of a, or it goes on: by the entry where a is to move, and by each
-- lawful turn of the other side
abbrev pub GoesOn : Color → List Planned → List Position → Position → (Position → Type 0)
    → Option Ending → Type 0
GoesOn a s h p Rest (Some e) = IsTrue (same_color e.winner a)
GoesOn a s h p Rest None =
    MatchBool (same_color p.side a) (HasAnswer s h p Rest)
    ((q : Position) → IsLawfulAt h p q → Rest q)

-- so it goes on from the present position, if there is one
abbrev pub GoesOnFrom : Color → List Planned → List Position → (Position → Type 0) → Option Position
    → Type 0
GoesOnFrom a s h Rest None = ⊥
GoesOnFrom a s h Rest (Some p) = GoesOn a s h p Rest (ending_at h p)

-- after the history h, a wins every play within n more turns
abbrev pub WinsEveryPlay : Color → List Planned → ℕ → List Position → Type 0
WinsEveryPlay a s zero h = GoesOnFrom a s h (λ _. ⊥) (present h)
WinsEveryPlay a s (suc n) h = GoesOnFrom a s h (λ q. WinsEveryPlay a s n (h ++ q ∷ [])) (present h)
