-- The present position of a history.
use Rattle.std.proofs.Common.{◌≡◌, ℕ, suc, ◌-◌, List, [], ◌∷◌, ◌++◌, length, Some, refl, sym, ap, ◌∙◌, subst, arith}
use Rattle.std.specs.List.{slice_get, All}
use Rattle.std.proofs.lemmas.Option.{get_or_from_slice_get, slice_get_within}
use Rattle.arimaa_board.specs.declared.position.Position.{Position}
use Rattle.arimaa_model.specs.Game.{present}
pub use Rattle.arimaa_model.proofs.Lemmas.Present.{present-push}

-- the present position is the last of the list
pub present-last : (h : List Position) → present h ≡ slice_get h (length h - 1)
present-last [] = refl
present-last (p ∷ []) = refl
present-last (p ∷ q ∷ h) =
    let n : ℕ = length h in
    let short : suc n - 1 ≡ n = omega arith in
    let long : suc (suc n) - 1 ≡ suc n = omega arith in
    present-last (q ∷ h) ∙ (ap (slice_get (q ∷ h)) short ∙ sym (ap (slice_get (p ∷ q ∷ h)) long))

-- what holds of each position holds of the present one
pub present-holds : (P : Position → Type 0) (h : List Position) (p : Position) → All P h → present h ≡ Some p → P p
present-holds P h p each now =
    let last : slice_get h (length h - 1) ≡ Some p = sym (present-last h) ∙ now in
    subst P (get_or_from_slice_get h (length h - 1) p p last) (each (length h - 1) p (slice_get_within h (length h - 1) p last))
