-- The positions that are met where the attacker plays the entries of a strategy.
use Rattle.std.specs.Prelude.{◌≡◌, ◌≢◌, List, None, Some}
use Rattle.arimaa_board.specs.declared.piece.Color.{Color}
use Rattle.arimaa_board.specs.declared.position.Position.{Position}
use Rattle.arimaa_model.specs.DecidedPositions.{decided}
use Rattle.arimaa_model.specs.Results.{next}
use Rattle.arimaa_model.specs.Members.{Stands}
use Rattle.arimaa_model.specs.Strategies.{Planned, answer_to}

-- q is met from p: an undecided position with the attacker to move
pub data IsMet (a : Color) (barred : List Position) (s : List Planned) (p : Position) : Position
    → Type 0 where
  start : p.side ≡ a → decided p ≡ None → IsMet a barred s p p
  reply : (q : Position) → p.side ≢ a → decided p ≡ None → Stands (next barred p) q
      → decided q ≡ None
      → IsMet a barred s p q
  further : (e r q : Position) → IsMet a barred s p e → answer_to s e ≡ Some r → decided r ≡ None
      → Stands (next barred r) q → decided q ≡ None → IsMet a barred s p q
