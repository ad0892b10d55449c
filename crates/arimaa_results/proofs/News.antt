-- The values of a list that are new, in order: each where it stands first.
use Rattle.std.proofs.Common.{◌≡◌, List, [], ◌∷◌, ◌++◌, Bool, true, false, cond, inl, inr, refl, sym, ◌∙◌, subst, append_assoc, append-nil, true≢false}
use Rattle.std.specs.Bool.{Decides}
use Rattle.std.specs.List.{list_any}
use Rattle.arimaa_model.proofs.Lemmas.Members.{In, In-left, In-any}
use Rattle.arimaa_region.specs.Same.{firsts}

module _ {X : Type 0} (same : X → X → Bool) (decides : (x y : X) → Decides (same x y) (x ≡ y)) where
  -- those of a list that stand neither in qs nor before
  abbrev pub news : List X → List X → List X
  news qs [] = []
  news qs (x ∷ xs) = cond (list_any (same x) qs) (news qs xs) (x ∷ news (qs ++ x ∷ []) xs)

  -- the first occurrences are those before, and then the new ones
  pub firsts-news : (qs xs : List X) → firsts same qs xs ≡ qs ++ news qs xs
  firsts-news qs [] = sym (append-nil qs)
  firsts-news qs (x ∷ xs) = elim (list_any (same x) qs) as (λ v. firsts same (cond v qs (qs ++ x ∷ [])) xs ≡ qs ++ cond v (news qs xs) (x ∷ news (qs ++ x ∷ []) xs)) [
    | true ↦ firsts-news qs xs
    | false ↦ firsts-news (qs ++ x ∷ []) xs ∙ append_assoc qs (x ∷ []) (news (qs ++ x ∷ []) xs)
  ]

  -- a new value stands not before
  pub new-absent : (qs xs : List X) (y : X) → In y (news qs xs) → In y qs → ⊥
  new-absent qs [] y i old = absurd i
  new-absent qs (x ∷ xs) y i old = by_test (list_any (same x) qs) refl i (λ j. new-absent qs xs y j old) (λ j. new-absent (qs ++ x ∷ []) xs y j (In-left y qs (x ∷ []) old)) where
    by_test : (v : Bool) → list_any (same x) qs ≡ v → In y (cond v (news qs xs) (x ∷ news (qs ++ x ∷ []) xs)) → (In y (news qs xs) → ⊥) → (In y (news (qs ++ x ∷ []) xs) → ⊥) → ⊥
    by_test true found j same_list longer = same_list j
    by_test false absent (inl e) same_list longer =
        let there : list_any (same x) qs ≡ true = In-any (same x) x qs (subst (λ (z : X). In z qs) e old) ((decides x x).1 refl) in
        true≢false (sym there ∙ absent)
    by_test false absent (inr j) same_list longer = longer j
