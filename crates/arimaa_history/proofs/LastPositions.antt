-- What is kept beside the positions of a history from which the last one is taken.
use Rattle.std.proofs.Common.{◌≡◌, ℕ, ◌+◌, ◌-◌, ◌≤◌, Bool, true, false, cond, ◌||◌, List, [], ◌∷◌, ◌++◌, length, take, BTreeMap, ◌⊎◌, inl, inr, refl, sym, ◌∙◌, ap, subst, arith, ⊎_elim, length-append, ne_eqb}
use Rattle.std.specs.Prelude.{◌==◌}
use Rattle.std.specs.Ordering.{is_eq}
use Rattle.std.specs.BTreeSet.{BTreeSet}
use Rattle.std.specs.HashSet.{HashSet, contains}
use Rattle.std.proofs.Math.Seq.{take-append_seam}
use Rattle.std.proofs.lemmas.Bool.{cases_Bool}
use Rattle.std.proofs.lemmas.List.{append-nil}
use Rattle.std.proofs.lemmas.List.Folds.{list_any-append}
use Rattle.arimaa_board.specs.declared.position.Position.{Position}
use Rattle.arimaa_model.specs.Members.{AreDistinct}
use Rattle.arimaa_model.specs.Results.{same_position, stands_in}
use Rattle.arimaa_model.specs.Game.{barred_by, count_in, if_second}
use Rattle.arimaa_model.proofs.Lemmas.Positions.{same_position-Decides, same_position-same, count-more}
use Rattle.arimaa_model.proofs.Lemmas.Barring.{barred-more}
use Rattle.arimaa_history.specs.declared.key.Key.{Key}
use Rattle.arimaa_history.specs.Keys.{key_of, position_at}
use Rattle.arimaa_history.specs.Counts.{order_of, same_key, count_of, has_key, without_last, AreCounts, AreKept, AreKeys, HasKeys, IsCounted}
use Rattle.arimaa_history.proofs.Lemmas.KeyTests.{same_keys, tied_keys}

-- what stands before the last position
pub without_last-push : (h : List Position) (p : Position) → without_last (h ++ p ∷ []) ≡ h
without_last-push h p =
    let size : length (h ++ p ∷ []) - 1 ≡ length h = omega (arith, length-append h (p ∷ [])) in
    ap (λ n. take n (h ++ p ∷ [])) size ∙ take-append_seam h (p ∷ [])

-- the last of distinct positions doesn't stand before itself
distinct-last : (ps : List Position) (p : Position) → AreDistinct (ps ++ p ∷ []) → stands_in ps p ≡ false
distinct-last [] p apart = refl
distinct-last (q ∷ ps) p apart = by_head (distinct-last ps p apart.1) (cases_Bool (same_position p q)) where
  at_end : stands_in (ps ++ p ∷ []) p ≡ true
  at_end = list_any-append (same_position p) ps (p ∷ []) ∙ last (stands_in ps p) where
    last : (there : Bool) → (there || stands_in (p ∷ []) p) ≡ true
    last true = refl
    last false = rw (same_position-same p p refl) refl

  by_head : stands_in ps p ≡ false → (same_position p q ≡ true) ⊎ (same_position p q ≡ false) → stands_in (q ∷ ps) p ≡ false
  by_head rest (inl same) =
      let is : p ≡ q = (same_position-Decides p q).0 same in
      absurd (apart.0 (subst (λ (x : Position). stands_in (ps ++ p ∷ []) x ≡ true) is at_end))
  by_head rest (inr other) = rw other rest

-- the set from which the key of p was taken has the keys of the list without p at its end
pub keys-less : {S : Type 0} (ps : List Position) (keys less : HashSet Key S) (p : Position)
    → AreKeys (ps ++ p ∷ []) keys → AreDistinct (ps ++ p ∷ []) → position_at (key_of p) ≡ p
    → ((k : Key) → contains same_key less k ≡ cond (same_key (key_of p) k) false (contains same_key keys k))
    → AreKeys ps less
keys-less ps keys less p are apart back updated q q_back =
    let parts : stands_in (ps ++ p ∷ []) q ≡ (stands_in ps q || stands_in (p ∷ []) q) = list_any-append (same_position q) ps (p ∷ []) in
    updated (key_of q) ∙ (rw (same_keys p q back q_back, are q q_back, parts) (by_place (cases_Bool (same_position q p)))) where
      by_place : (same_position q p ≡ true) ⊎ (same_position q p ≡ false)
          → cond (same_position q p) false (stands_in ps q || stands_in (p ∷ []) q) ≡ stands_in ps q
      by_place (inl same) =
          let is : p ≡ q = sym ((same_position-Decides q p).0 same) in
          rw same (sym (subst (λ (x : Position). stands_in ps x ≡ false) is (distinct-last ps p apart)))
      by_place (inr other) = rw other (alone (stands_in ps q)) where
        alone : (there : Bool) → (there || (false || false)) ≡ there
        alone true = refl
        alone false = refl

module _ (h : List Position) (p : Position) (back : position_at (key_of p) ≡ p) where
  -- the set from which the key of p was taken has the keys of the list without p at its end, where p
  -- does not stand there
  has-less : (keys less : BTreeSet Key) → count_in h p ≡ 0 → HasKeys (h ++ p ∷ []) keys
      → ((k : Key) → has_key less k ≡ cond (is_eq (order_of (key_of p) k)) false (has_key keys k))
      → HasKeys h less
  has-less keys less none are updated q q_back =
      let value : has_key less (key_of q) ≡ cond (same_position q p) false (has_key keys (key_of q)) =
      updated (key_of q) ∙ ap (λ (b : Bool). cond b false (has_key keys (key_of q))) (tied_keys p q back q_back) in
      let gain = count-more h p q in
      ⊎_elim
      (λ (same : same_position q p ≡ true).
      let now : has_key less (key_of q) ≡ false = rw same at value in
      let here : count_in h q ≡ 0 = ap (count_in h) ((same_position-Decides q p).0 same) ∙ none in
      (λ (there : has_key less (key_of q) ≡ true). absurd (not-both (sym there ∙ now)), λ (_ : has_key less (key_of q) ≡ false). here))
      (λ (other : same_position q p ≡ false).
      let now : has_key less (key_of q) ≡ has_key keys (key_of q) = rw other at value in
      let then : count_in (h ++ p ∷ []) q ≡ count_in h q + 0 = rw other at gain in (
        λ (there : has_key less (key_of q) ≡ true). let old = (are q q_back).0 (sym now ∙ there) in omega (arith, then, old),
        λ (lacks : has_key less (key_of q) ≡ false). let old = (are q q_back).1 (sym now ∙ lacks) in omega (arith, then, old),
      ))
      (cases_Bool (same_position q p)) where
        not-both : true ≡ false → ⊥
        not-both e = cc

  -- the set stays where p stands in the list without p at its end
  has-still : (keys : BTreeSet Key) → 1 ≤ count_in h p → HasKeys (h ++ p ∷ []) keys → HasKeys h keys
  has-still keys stood are q q_back =
      let gain = count-more h p q in
      ⊎_elim
      (λ (same : same_position q p ≡ true).
      let here : 1 ≤ count_in h q = subst (λ (x : Position). 1 ≤ count_in h x) (sym ((same_position-Decides q p).0 same)) stood in
      let then : count_in (h ++ p ∷ []) q ≡ count_in h q + 1 = rw same at gain in (
        λ (_ : has_key keys (key_of q) ≡ true). here,
        λ (lacks : has_key keys (key_of q) ≡ false). let old = (are q q_back).1 lacks in omega (arith, then, old),
      ))
      (λ (other : same_position q p ≡ false).
      let then : count_in (h ++ p ∷ []) q ≡ count_in h q + 0 = rw other at gain in (
        λ (there : has_key keys (key_of q) ≡ true). let old = (are q q_back).0 there in omega (arith, then, old),
        λ (lacks : has_key keys (key_of q) ≡ false). let old = (are q q_back).1 lacks in omega (arith, then, old),
      ))
      (cases_Bool (same_position q p))

  -- the map in which the count of p is one less counts the list without p at its end
  counting-less : (again less : BTreeMap Key ℕ) → AreCounts (h ++ p ∷ []) again
      → IsCounted again less (key_of p) (count_of again (key_of p) - 1) → AreCounts h less
  counting-less again less are counted q q_back =
      let value : count_of less (key_of q) ≡ cond (same_position q p) (count_of again (key_of p) - 1) (count_of again (key_of q)) =
      counted (key_of q) ∙ ap (λ (v : Bool). cond v (count_of again (key_of p) - 1) (count_of again (key_of q))) (tied_keys p q back q_back) in
      let was : count_of again (key_of q) ≡ count_in (h ++ p ∷ []) q - 1 = are q q_back in
      let gain : count_in (h ++ p ∷ []) q ≡ count_in h q + cond (same_position q p) 1 0 = count-more h p q in
      ⊎_elim
      (λ (same : same_position q p ≡ true).
      let alike : p ≡ q = sym ((same_position-Decides q p).0 same) in
      let before : count_of again (key_of p) ≡ count_in (h ++ p ∷ []) q - 1 = ap (λ (x : Position). count_of again (key_of x)) alike ∙ was in
      let now : count_of less (key_of q) ≡ count_of again (key_of p) - 1 = rw same at value in
      let then : count_in (h ++ p ∷ []) q ≡ count_in h q + 1 = rw same at gain in
      omega (arith, now, before, then))
      (λ (other : same_position q p ≡ false).
      let now : count_of less (key_of q) ≡ count_of again (key_of q) = rw other at value in
      let then : count_in (h ++ p ∷ []) q ≡ count_in h q + 0 = rw other at gain in
      omega (arith, now, was, then))
      (cases_Bool (same_position q p))

module _ (h all barred : List Position) (keys : BTreeSet Key) (again less : BTreeMap Key ℕ) (p : Position) (key : Key)
    (is : key ≡ key_of p) (gives_back : position_at key ≡ p) (items : all ≡ h ++ p ∷ []) (kept_all : AreKept all barred keys again)
    (counted : IsCounted again less key (count_of again key - 1)) where
  kept : AreKept (h ++ p ∷ []) barred keys again
  kept = subst (λ (xs : List Position). AreKept xs barred keys again) items kept_all

  back : position_at (key_of p) ≡ p
  back = sym (ap position_at is) ∙ gives_back

  -- how often the position stands in the list without it at its end
  left_count : count_of again key ≡ count_in h p
  left_count =
      let here : count_of again key ≡ count_in (h ++ p ∷ []) p - 1 = ap (count_of again) is ∙ kept.counting p back in
      let gain : count_in (h ++ p ∷ []) p ≡ count_in h p + cond (same_position p p) 1 0 = count-more h p p in
      let then : count_in (h ++ p ∷ []) p ≡ count_in h p + 1 = rw (same_position-same p p refl) at gain in
      omega (arith, here, then)

  counts_less : AreCounts h less
  counts_less = counting-less h p back again less kept.counting (subst (λ (k : Key). IsCounted again less k (count_of again k - 1)) is counted)

  was_barred : barred ≡ barred_by h ++ if_second h p []
  was_barred = kept.barring ∙ barred-more h p

  -- the barred ones stay where the position stood not once
  still_barred : (count_of again key ≡ 1 → ⊥) → barred ≡ barred_by h
  still_barred other =
      let none : (count_in h p == 1) ≡ false = ne_eqb (count_in h p) 1 (λ e. other (left_count ∙ e)) in
      let was : barred ≡ barred_by h ++ [] = rw none at was_barred in
      was ∙ append-nil (barred_by h)

  -- what is kept where the position stands no more
  pub kept_none : (now : BTreeSet Key) → count_of again key ≡ 0
      → ((k : Key) → has_key now k ≡ cond (is_eq (order_of key k)) false (has_key keys k)) → AreKept h barred now less
  kept_none now none updated = record {
    barring = still_barred (λ once. omega (arith, none, once));
    standing = has-less h p back keys now (sym left_count ∙ none) kept.standing
        (subst (λ (j : Key). (k : Key) → has_key now k ≡ cond (is_eq (order_of j k)) false (has_key keys k)) is updated);
    counting = counts_less;
  }

  -- what is kept where it stands once: it was the last that is barred
  pub kept_once : (now : List Position) → count_of again key ≡ 1 → now ≡ without_last barred → AreKept h now keys less
  kept_once now once rest =
      let here : count_in h p ≡ 1 = sym left_count ∙ once in
      let one : (count_in h p == 1) ≡ true = rw here refl in
      let was : barred ≡ barred_by h ++ p ∷ [] = rw one at was_barred in
      record {
        barring = rest ∙ (ap without_last was ∙ without_last-push (barred_by h) p);
        standing = has-still h p back keys (omega (arith, here)) kept.standing;
        counting = counts_less;
      }

  -- what is kept where it stands more often
  pub kept_often : 2 ≤ count_of again key → AreKept h barred keys less
  kept_often often = record {
    barring = still_barred (λ once. omega (arith, often, once));
    standing = has-still h p back keys (omega (arith, often, left_count)) kept.standing;
    counting = counts_less;
  }
