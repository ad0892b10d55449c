-- The present position of a history.
use Rattle.std.proofs.Common.{◌≡◌, ℕ, ◌≤◌, List, [], ◌∷◌, ◌++◌, length, Some, true, is_some, refl, arith}
use Rattle.arimaa_board.specs.declared.position.Position.{Position}
use Rattle.arimaa_model.specs.Game.{present}

-- the position that was added last is the present one
pub present-push : (h : List Position) (q : Position) → present (h ++ q ∷ []) ≡ Some q
present-push [] q = refl
present-push (p ∷ []) q = refl
present-push (p ∷ r ∷ h) q = present-push (r ∷ h) q

-- there is a present position
pub present-some : (h : List Position) → 1 ≤ length h → is_some (present h) ≡ true
present-some [] some = absurd (omega arith)
present-some (p ∷ []) some = refl
present-some (p ∷ q ∷ h) some = present-some (q ∷ h) (omega arith)
