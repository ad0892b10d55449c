-- Blocks of values, each less some of what earlier blocks have: the first occurrences stay.
use Rattle.std.proofs.Common.{◌≡◌, List, [], ◌∷◌, ◌++◌, ◌⊎◌, inl, inr, ⊎_elim, refl, sym, ◌∙◌, ap, subst, append-nil}
use Rattle.std.specs.List.{flat_map}
use Rattle.arimaa_model.proofs.Lemmas.Lists.{flat_map-append}
use Rattle.arimaa_model.proofs.Lemmas.Members.{In, In-append}

-- zs is ys less some elements that are members of qs
abbrev pub IsLess : {R : Type 0} → List R → List R → List R → Type 0
IsLess qs [] zs = zs ≡ []
IsLess qs (y ∷ ys) zs = (In y qs × IsLess qs ys zs) ⊎ ((rest : List _) × (zs ≡ y ∷ rest) × IsLess qs ys rest)

-- the list is that of the blocks of xs, each less some members of the blocks before it
abbrev pub AreLess : {X R : Type 0} → (X → List R) → List X → List X → List R → Type 0
AreLess full before [] out = out ≡ []
AreLess full before (x ∷ xs) out = (block : List _) × (rest : List _) × (out ≡ block ++ rest) × IsLess (flat_map full before) (full x) block × AreLess full (before ++ x ∷ []) xs rest

module _ {R : Type 0} where
  pub less_none : (qs ys : List R) → ((y : R) → In y ys → In y qs) → IsLess qs ys []
  less_none qs [] known = refl
  less_none qs (y ∷ ys) known = inl (known y (inl refl), less_none qs ys (λ z i. known z (inr i)))

  pub less_same : (qs ys : List R) → IsLess qs ys ys
  less_same qs [] = refl
  less_same qs (y ∷ ys) = inr (ys, refl, less_same qs ys)

  pub less_append : (qs ks ls ms ns : List R) → IsLess qs ks ls → IsLess qs ms ns → IsLess qs (ks ++ ms) (ls ++ ns)
  less_append qs [] ls ms ns e h = subst (λ l. IsLess qs ms (l ++ ns)) (sym e) h
  less_append qs (k ∷ ks) ls ms ns (inl f) h = inl (f.0, less_append qs ks ls ms ns f.1 h)
  less_append qs (k ∷ ks) ls ms ns (inr f) h = inr (f.0 ++ ns, ap (λ l. l ++ ns) f.1, less_append qs ks f.0 ms ns f.2 h)

  -- blocks made of parts, each of which stays or stands already
  pub less_parts : {T : Type 0} → (qs : List R) (f g : T → List R) (ts : List T) → ((t : T) → In t ts → (g t ≡ f t) ⊎ ((g t ≡ []) × ((y : R) → In y (f t) → In y qs))) → IsLess qs (flat_map f ts) (flat_map g ts)
  less_parts qs f g [] each = refl
  less_parts qs f g (t ∷ ts) each =
      less_append qs (f t) (g t) (flat_map f ts) (flat_map g ts)
      (⊎_elim (λ e. subst (λ l. IsLess qs (f t) l) (sym e) (less_same qs (f t))) (λ h. subst (λ l. IsLess qs (f t) l) (sym h.0) (less_none qs (f t) h.1)) (each t (inl refl)))
      (less_parts qs f g ts (λ u i. each u (inr i)))

-- keep: a list with the values of another, each where it is new; add: a list with one value, if it is new
module _ {R : Type 0} (keep : List R → List R → List R) (add : List R → R → List R) (none : (q : List R) → keep q [] ≡ q) (one : (q xs : List R) (x : R) → keep q (x ∷ xs) ≡ keep (add q x) xs) (known : (x : R) (q : List R) → In x q → add q x ≡ q) (old : (y x : R) (q : List R) → In y q → In y (add q x)) (new : (x : R) (q : List R) → In x (add q x)) where
  keep-append : (q xs ys : List R) → keep q (xs ++ ys) ≡ keep (keep q xs) ys
  keep-append q [] ys = ap (λ l. keep l ys) (sym (none q))
  keep-append q (x ∷ xs) ys = one q (xs ++ ys) x ∙ (keep-append (add q x) xs ys ∙ ap (λ l. keep l ys) (sym (one q xs x)))

  keep-old : (y : R) (q xs : List R) → In y q → In y (keep q xs)
  keep-old y q [] i = rw (none q) i
  keep-old y q (x ∷ xs) i = rw (one q xs x) (keep-old y (add q x) xs (old y x q i))

  keep-new : (y : R) (q xs : List R) → In y xs → In y (keep q xs)
  keep-new y q [] i = absurd i
  keep-new y q (x ∷ xs) (inl e) = rw (one q xs x) (keep-old y (add q x) xs (subst (λ (z : R). In z (add q x)) (sym e) (new x q)))
  keep-new y q (x ∷ xs) (inr i) = rw (one q xs x) (keep-new y (add q x) xs i)

  -- a block less what is there already adds the same
  pub less_adds : (qs q ys zs : List R) → ((y : R) → In y qs → In y q) → IsLess qs ys zs → keep q ys ≡ keep q zs
  less_adds qs q [] zs there e = ap (keep q) (sym e)
  less_adds qs q (y ∷ ys) zs there (inl h) = one q ys y ∙ (ap (λ l. keep l ys) (known y q (there y h.0)) ∙ less_adds qs q ys zs there h.1)
  less_adds qs q (y ∷ ys) zs there (inr h) =
      one q ys y
      ∙ (less_adds qs (add q y) ys h.0 (λ z i. old z y q (there z i)) h.2
      ∙ (sym (one q h.0 y) ∙ ap (keep q) (sym h.1)))

  module _ {X : Type 0} (full : X → List R) where
    less_from : (before xs : List X) (q out : List R) → ((y : R) → In y (flat_map full before) → In y q) → AreLess full before xs out → keep q (flat_map full xs) ≡ keep q out
    less_from before [] q out there e = ap (keep q) (sym e)
    less_from before (x ∷ xs) q out there h =
        let same : keep q (full x) ≡ keep q h.0 = less_adds (flat_map full before) q (full x) h.0 there h.3 in
        let on : keep (keep q (full x)) (flat_map full xs) ≡ keep (keep q (full x)) h.1 =
        less_from (before ++ x ∷ []) xs (keep q (full x)) h.1
        (λ y i. ⊎_elim (λ j. keep-old y q (full x) (there y j)) (λ j. keep-new y q (full x) (rw (sym (append-nil (full x))) j)) (In-append y (flat_map full before) (full x ++ []) (rw (sym (flat_map-append full before (x ∷ []))) i)))
        h.4 in
        keep-append q (full x) (flat_map full xs)
        ∙ (on
        ∙ (ap (λ l. keep l h.1) same
        ∙ (sym (keep-append q h.0 h.1) ∙ ap (keep q) (sym h.2))))

    -- leaving out of each block what earlier blocks have changes no first occurrences
    pub left_out : (xs : List X) (q out : List R) → AreLess full [] xs out → keep q (flat_map full xs) ≡ keep q out
    left_out xs q out h = less_from [] xs q out (λ y i. absurd i) h
