-- Words outside the plain form, from their parts.
use Rattle.std.proofs.Common.{◌≡◌, ℕ, suc, ◌+◌, List, [], ◌∷◌, ◌++◌, take, map, Some, refl, ◌∙◌, ap, arith}
use Rattle.std.specs.Prelude.{slice_get, zero}
use Rattle.std.specs.Borrow.{Bor}

-- a word stands at a place
pub one_more : (ws : List (List ℕ)) (k : ℕ) (a : List ℕ) → Some a ≡ slice_get ws k → take (k + 1) ws ≡ take k ws ++ a ∷ []
one_more [] k a e = cc
one_more (x ∷ ws) zero a e = cc
one_more (x ∷ ws) (suc k) a e =
    let f : suc k + 1 ≡ suc (k + 1) = omega arith in
    ap (λ n. take n (x ∷ ws)) f ∙ ap (λ l. x ∷ l) (one_more ws k a e)

-- one more word behind a reference
pub map_more : (xs : List (Bor (List ℕ))) (w : Bor (List ℕ)) → map (λ v. v.now) (xs ++ w ∷ []) ≡ map (λ v. v.now) xs ++ w.now ∷ []
map_more [] w = refl
map_more (x ∷ xs) w = ap (λ l. x.now ∷ l) (map_more xs w)
