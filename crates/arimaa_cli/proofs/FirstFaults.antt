-- The first faulty entry of a list is one, and so is its fault.
use Rattle.std.proofs.Common.{◌≡◌, List, [], ◌∷◌, ◌++◌, length, true, false, Option, None, Some, refl, sym, ◌∙◌, ap, subst, arith, append_assoc, true≢false}
use Rattle.std.proofs.lemmas.List.{append-nil}

module _ (E W : Type 0) (fault : List E → E → Option W) (AreGood : List E → List E → Type 0)
    (first_good : (acc : List E) (e : E) (es : List E) → AreGood acc (e ∷ es) → fault acc e ≡ None)
    (rest_good : (acc : List E) (e : E) (es : List E) → AreGood acc (e ∷ es) → AreGood (acc ++ e ∷ []) es) where
  -- an entry of a list without faults has none
  pub faultless_at : (acc xs : List E) (x : E) (us : List E) → AreGood acc (xs ++ x ∷ us) → fault (acc ++ xs) x ≡ None
  faultless_at acc [] x us h = ap (λ (l : List E). fault l x) (append-nil acc) ∙ first_good acc x us h
  faultless_at acc (y ∷ xs) x us h = ap (λ (l : List E). fault l x) (sym (append_assoc acc (y ∷ []) xs)) ∙ faultless_at (acc ++ y ∷ []) xs x us (rest_good acc y (xs ++ x ∷ us) h)

  pub no_fault : {w : W} {o : Option W} → o ≡ None → o ≡ Some w → ⊥
  no_fault none some = let wrong : true ≡ false = cc in true≢false wrong

  pub one_fault : (acc xs ys : List E) (x y : E) (us vs : List E) (w v : W) → AreGood acc xs → AreGood acc ys
      → fault (acc ++ xs) x ≡ Some w → fault (acc ++ ys) y ≡ Some v → xs ++ x ∷ us ≡ ys ++ y ∷ vs → (length xs ≡ length ys) × (w ≡ v)
  one_fault acc [] [] x y us vs w v p q f g e = let same : x ≡ y = cc in let both = sym f ∙ (ap (λ (z : E). fault (acc ++ []) z) same ∙ g) in let cause : w ≡ v = cc in (refl, cause)
  one_fault acc [] (m ∷ ys) x y us vs w v p q f g e =
      let same : x ≡ m = cc in absurd (no_fault (first_good acc m ys q) (sym (ap (λ (l : List E). fault l m) (append-nil acc)) ∙ (sym (ap (λ (z : E). fault (acc ++ []) z) same) ∙ f)))
  one_fault acc (l ∷ xs) [] x y us vs w v p q f g e =
      let same : y ≡ l = cc in absurd (no_fault (first_good acc l xs p) (sym (ap (λ (z : List E). fault z l) (append-nil acc)) ∙ (sym (ap (λ (z : E). fault (acc ++ []) z) same) ∙ g)))
  one_fault acc (l ∷ xs) (m ∷ ys) x y us vs w v p q f g e =
      let first : l ≡ m = cc in
      let rest : xs ++ x ∷ us ≡ ys ++ y ∷ vs = cc in
      let left : fault ((acc ++ l ∷ []) ++ xs) x ≡ Some w = ap (λ (z : List E). fault z x) (append_assoc acc (l ∷ []) xs) ∙ f in
      let right : fault ((acc ++ l ∷ []) ++ ys) y ≡ Some v = ap (λ (z : List E). fault z y) (ap (λ (z : E). (acc ++ z ∷ []) ++ ys) first ∙ append_assoc acc (m ∷ []) ys) ∙ g in
      let good : AreGood (acc ++ l ∷ []) ys = subst (λ (z : E). AreGood (acc ++ z ∷ []) ys) (sym first) (rest_good acc m ys q) in
      let both = one_fault (acc ++ l ∷ []) xs ys x y us vs w v (rest_good acc l xs p) good left right rest in
      (omega (arith, both.0), both.1)
