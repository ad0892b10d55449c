-- Counts by keys are counts of positions, and a set of keys is one of positions.
use Rattle.std.proofs.Common.{◌≡◌, ℕ, ◌+◌, ◌-◌, ◌≤◌, Bool, true, false, not, cond, ◌||◌, List, [], ◌∷◌, ◌++◌, BTreeMap, refl, sym, ◌∙◌, ap, subst, arith, ⊎_elim}
use Rattle.std.specs.Ordering.{is_eq}
use Rattle.std.specs.BTreeMap.{IsEmpty, IsUnchanged}
use Rattle.std.specs.BTreeSet.{BTreeSet}
use Rattle.std.specs.Prelude.{◌==◌}
use Rattle.std.proofs.lemmas.List.{append-nil}
use Rattle.std.specs.HashSet.{HashSet, contains}
use Rattle.std.proofs.lemmas.Bool.{cases_Bool, not-true, not-false}
use Rattle.std.proofs.lemmas.List.Folds.{list_any-append}
use Rattle.arimaa_board.specs.declared.position.Position.{Position}
use Rattle.arimaa_model.specs.Results.{same_position, stands_in}
use Rattle.arimaa_model.specs.Game.{barred_by, count_in}
use Rattle.arimaa_model.proofs.Lemmas.Positions.{same_position-Decides, count-more}
use Rattle.arimaa_model.proofs.Lemmas.Barring.{barred-more}
use Rattle.arimaa_history.specs.declared.key.Key.{Key}
use Rattle.arimaa_history.specs.Keys.{key_of, position_at}
use Rattle.arimaa_history.specs.Counts.{order_of, same_key, count_of, AreCounts, AreKept, AreKeys, IsCounted, HasKeys, has_key}
use Rattle.arimaa_history.proofs.Lemmas.KeyTests.{order-Decides, same_keys, tied_keys}

-- a count that is the same as before, at a key and at one that ties with it
same_count : (counts : BTreeMap Key ℕ) (key k : Key) → cond (is_eq (order_of key k)) (count_of counts key) (count_of counts k) ≡ count_of counts k
same_count counts key k =
    ⊎_elim
    (λ (same : is_eq (order_of key k) ≡ true). rw same (ap (count_of counts) ((order-Decides key k).0 same)))
    (λ (other : is_eq (order_of key k) ≡ false). rw other refl)
    (cases_Bool (is_eq (order_of key k)))

-- a map that stays counts each key as before
pub unchanged_counts : (old new : BTreeMap Key ℕ) (key : Key) → IsUnchanged old new → IsCounted old new key (count_of old key)
unchanged_counts old new key same k = rw same (sym (same_count old key k))

-- a set to which a new key was added and from which it was taken again has what it had
pub keys-again : (keys more less : BTreeSet Key) (key : Key) → has_key keys key ≡ false
    → ((k : Key) → has_key more k ≡ cond (is_eq (order_of key k)) true (has_key keys k))
    → ((k : Key) → has_key less k ≡ cond (is_eq (order_of key k)) false (has_key more k))
    → (k : Key) → has_key less k ≡ has_key keys k
keys-again keys more less key none added taken k =
    let was : has_key more k ≡ cond (is_eq (order_of key k)) true (has_key keys k) = added k in
    let is : has_key less k ≡ cond (is_eq (order_of key k)) false (has_key more k) = taken k in
    ⊎_elim
    (λ (same : is_eq (order_of key k) ≡ true).
    let now : has_key less k ≡ false = rw same at is in
    now ∙ (sym none ∙ ap (has_key keys) ((order-Decides key k).0 same)))
    (λ (other : is_eq (order_of key k) ≡ false).
    let now : has_key less k ≡ has_key more k = rw other at is in
    let then : has_key more k ≡ has_key keys k = rw other at was in
    now ∙ then)
    (cases_Bool (is_eq (order_of key k)))

-- a set to which a key was added that it had has what it had
keys-stay : (keys more : BTreeSet Key) (key : Key) → has_key keys key ≡ true
    → ((k : Key) → has_key more k ≡ cond (is_eq (order_of key k)) true (has_key keys k))
    → (k : Key) → has_key more k ≡ has_key keys k
keys-stay keys more key here added k =
    let is : has_key more k ≡ cond (is_eq (order_of key k)) true (has_key keys k) = added k in
    ⊎_elim
    (λ (same : is_eq (order_of key k) ≡ true).
    let now : has_key more k ≡ true = rw same at is in
    now ∙ (sym here ∙ ap (has_key keys) ((order-Decides key k).0 same)))
    (λ (other : is_eq (order_of key k) ≡ false).
    let now : has_key more k ≡ has_key keys k = rw other at is in
    now)
    (cases_Bool (is_eq (order_of key k)))

module _ (h : List Position) (p : Position) (back : position_at (key_of p) ≡ p) where
  -- the set to which the key of p was added has the keys of the list with p at its end
  has-more : (keys more : BTreeSet Key) → HasKeys h keys
      → ((k : Key) → has_key more k ≡ cond (is_eq (order_of (key_of p) k)) true (has_key keys k)) → HasKeys (h ++ p ∷ []) more
  has-more keys more are updated q q_back =
      let value : has_key more (key_of q) ≡ cond (same_position q p) true (has_key keys (key_of q)) =
      updated (key_of q) ∙ ap (λ (b : Bool). cond b true (has_key keys (key_of q))) (tied_keys p q back q_back) in
      let gain = count-more h p q in
      ⊎_elim
      (λ (same : same_position q p ≡ true).
      let now : has_key more (key_of q) ≡ true = rw same at value in
      let then : count_in (h ++ p ∷ []) q ≡ count_in h q + 1 = rw same at gain in
      (λ (_ : has_key more (key_of q) ≡ true). omega (arith, then), λ (none : has_key more (key_of q) ≡ false). absurd (not-both (sym now ∙ none))))
      (λ (other : same_position q p ≡ false).
      let now : has_key more (key_of q) ≡ has_key keys (key_of q) = rw other at value in
      let then : count_in (h ++ p ∷ []) q ≡ count_in h q + 0 = rw other at gain in (
        λ (here : has_key more (key_of q) ≡ true). let old = (are q q_back).0 (sym now ∙ here) in omega (arith, then, old),
        λ (none : has_key more (key_of q) ≡ false). let old = (are q q_back).1 (sym now ∙ none) in omega (arith, then, old),
      ))
      (cases_Bool (same_position q p)) where
        not-both : true ≡ false → ⊥
        not-both e = cc

  -- the map stays where p is new
  counting-new : (again : BTreeMap Key ℕ) → count_in h p ≡ 0 → AreCounts h again → AreCounts (h ++ p ∷ []) again
  counting-new again none are q q_back =
      let was : count_of again (key_of q) ≡ count_in h q - 1 = are q q_back in
      let gain = count-more h p q in
      ⊎_elim
      (λ (same : same_position q p ≡ true).
      let here : count_in h q ≡ 0 = ap (count_in h) ((same_position-Decides q p).0 same) ∙ none in
      let then : count_in (h ++ p ∷ []) q ≡ count_in h q + 1 = rw same at gain in
      omega (arith, was, then, here))
      (λ (other : same_position q p ≡ false).
      let then : count_in (h ++ p ∷ []) q ≡ count_in h q + 0 = rw other at gain in
      omega (arith, was, then))
      (cases_Bool (same_position q p))

  -- the map in which the count of p is one more counts the list with p at its end, where p stood before
  counting-more : (again more : BTreeMap Key ℕ) → 1 ≤ count_in h p → AreCounts h again → IsCounted again more (key_of p) (count_of again (key_of p) + 1) → AreCounts (h ++ p ∷ []) more
  counting-more again more stood are counted q q_back =
      let value : count_of more (key_of q) ≡ cond (same_position q p) (count_of again (key_of p) + 1) (count_of again (key_of q)) =
      counted (key_of q) ∙ ap (λ (b : Bool). cond b (count_of again (key_of p) + 1) (count_of again (key_of q))) (tied_keys p q back q_back) in
      let was : count_of again (key_of q) ≡ count_in h q - 1 = are q q_back in
      let gain = count-more h p q in
      ⊎_elim
      (λ (same : same_position q p ≡ true).
      let alike : p ≡ q = sym ((same_position-Decides q p).0 same) in
      let stands : 1 ≤ count_in h q = subst (λ (x : Position). 1 ≤ count_in h x) alike stood in
      let before : count_of again (key_of p) ≡ count_in h q - 1 = ap (λ (x : Position). count_of again (key_of x)) alike ∙ was in
      let now : count_of more (key_of q) ≡ count_of again (key_of p) + 1 = rw same at value in
      let then : count_in (h ++ p ∷ []) q ≡ count_in h q + 1 = rw same at gain in
      omega (arith, now, before, then, stands))
      (λ (other : same_position q p ≡ false).
      let now : count_of more (key_of q) ≡ count_of again (key_of q) = rw other at value in
      let then : count_in (h ++ p ∷ []) q ≡ count_in h q + 0 = rw other at gain in
      omega (arith, now, was, then))
      (cases_Bool (same_position q p))

module _ (h barred : List Position) (keys : BTreeSet Key) (again : BTreeMap Key ℕ) (p : Position) (key : Key) (is : key ≡ key_of p) (gives_back : position_at key ≡ p) (kept : AreKept h barred keys again) where
  back : position_at (key_of p) ≡ p
  back = sym (ap position_at is) ∙ gives_back

  -- how often again the position stands
  pub again_count : count_of again key ≡ count_in h p - 1
  again_count = ap (count_of again) is ∙ kept.counting p back

  -- a key that the set has stands for a position of the list, and one that it lacks for none
  pub key_stands : has_key keys key ≡ true → 1 ≤ count_in h p
  key_stands here = (kept.standing p back).0 (ap (has_key keys) (sym is) ∙ here)

  pub key_lacks : has_key keys key ≡ false → count_in h p ≡ 0
  key_lacks none = (kept.standing p back).1 (ap (has_key keys) (sym is) ∙ none)

  -- what is kept beside the positions, with a new one
  kept_new : (more : BTreeSet Key) → has_key keys key ≡ false → ((k : Key) → has_key more k ≡ cond (is_eq (order_of key k)) true (has_key keys k)) → AreKept (h ++ p ∷ []) barred more again
  kept_new more none updated =
      let fresh : count_in h p ≡ 0 = key_lacks none in
      let once : (count_in h p == 1) ≡ false = rw fresh refl in
      let same : barred_by (h ++ p ∷ []) ≡ barred_by h ++ [] = barred-more h p ∙ ap (λ (b : Bool). barred_by h ++ cond b (p ∷ []) []) once in
      record {
        barring = kept.barring ∙ sym (same ∙ append-nil (barred_by h));
        standing = has-more h p back keys more kept.standing (subst (λ (j : Key). (k : Key) → has_key more k ≡ cond (is_eq (order_of j k)) true (has_key keys k)) is updated);
        counting = counting-new h p back again fresh kept.counting;
      }

  -- what is kept beside the positions, with one that stood already
  kept_more : (now : BTreeSet Key) (more : BTreeMap Key ℕ) → has_key keys key ≡ true
      → ((k : Key) → has_key now k ≡ cond (is_eq (order_of key k)) true (has_key keys k))
      → IsCounted again more key (count_of again key + 1)
      → AreKept (h ++ p ∷ []) (barred ++ cond (count_of again key == 0) (p ∷ []) []) now more
  kept_more now more here updated counted =
      let stood : 1 ≤ count_in h p = key_stands here in
      let alike : (count_of again key == 0) ≡ (count_in h p == 1) = first (count_of again key) (count_in h p) again_count stood in
      record {
        barring = ap (λ (qs : List Position). qs ++ cond (count_of again key == 0) (p ∷ []) []) kept.barring ∙ (ap (λ (b : Bool). barred_by h ++ cond b (p ∷ []) []) alike ∙ sym (barred-more h p));
        standing = has-more h p back keys now kept.standing (subst (λ (j : Key). (k : Key) → has_key now k ≡ cond (is_eq (order_of j k)) true (has_key keys k)) is updated);
        counting = counting-more h p back again more stood kept.counting (subst (λ (k : Key). IsCounted again more k (count_of again k + 1)) is counted);
      } where
        first : (a n : ℕ) → a ≡ n - 1 → 1 ≤ n → (a == 0) ≡ (n == 1)
        first a n e l = grind arith

  -- what is kept stays where the keys stay and the count is written as it was
  kept_same : (now : BTreeSet Key) (more : BTreeMap Key ℕ) → ((k : Key) → has_key now k ≡ has_key keys k) → IsCounted again more key (count_of again key) → AreKept h barred now more
  kept_same now more alike counted = record {
    barring = kept.barring;
    standing = λ q q_back. (λ here. (kept.standing q q_back).0 (sym (alike (key_of q)) ∙ here), λ none. (kept.standing q q_back).1 (sym (alike (key_of q)) ∙ none));
    counting = λ q q_back. counted (key_of q) ∙ (same_count again key (key_of q) ∙ kept.counting q q_back);
  }

  -- what is kept once the position was added where its key was new
  module _ (hs : List Position) (now : BTreeSet Key) (added : Bool) (is_added : added ≡ not (has_key keys key))
      (positions : hs ≡ cond added (h ++ p ∷ []) h)
      (updated : (k : Key) → has_key now k ≡ cond (is_eq (order_of key k)) true (has_key keys k)) where
    pub kept_first : added ≡ true → AreKept hs barred now again
    kept_first so =
        let items : hs ≡ h ++ p ∷ [] = rw so at positions in
        subst (λ (xs : List Position). AreKept xs barred now again) (sym items) (kept_new now (not-true (has_key keys key) (sym is_added ∙ so)) updated)

    stood : added ≡ false → has_key keys key ≡ true
    stood stands = not-false (has_key keys key) (sym is_added ∙ stands)

    unmoved : added ≡ false → hs ≡ h
    unmoved stands = rw stands at positions

    -- where it was not, and the count is written as it was
    pub kept_still : added ≡ false → (more : BTreeMap Key ℕ) → IsCounted again more key (count_of again key) → AreKept hs barred now more
    kept_still stands more counted =
        subst (λ (xs : List Position). AreKept xs barred now more) (sym (unmoved stands))
        (kept_same now more (keys-stay keys now key (stood stands) updated) counted)

    -- where it was not, and is added afterwards
    pub kept_again : added ≡ false → (qs barring : List Position) → qs ≡ hs ++ p ∷ []
        → barring ≡ barred ++ cond (count_of again key == 0) (p ∷ []) []
        → (more : BTreeMap Key ℕ) → IsCounted again more key (count_of again key + 1) → AreKept qs barring now more
    kept_again stands qs barring grown twice more counted =
        let items : qs ≡ h ++ p ∷ [] = grown ∙ ap (λ (xs : List Position). xs ++ p ∷ []) (unmoved stands) in
        let kept_now = kept_more now more (stood stands) updated counted in
        subst (λ (xs : List Position). AreKept xs barring now more) (sym items)
        (subst (λ (bs : List Position). AreKept (h ++ p ∷ []) bs now more) (sym twice) kept_now)

-- what is kept beside no positions
pub kept-empty : (h barred : List Position) (keys : BTreeSet Key) (again : BTreeMap Key ℕ) → h ≡ [] → barred ≡ [] → keys.keys ≡ [] → IsEmpty again → AreKept h barred keys again
unfolding barred_by
kept-empty h barred keys again no_positions no_barred no_keys empty = record {
  barring = no_barred ∙ ap barred_by (sym no_positions);
  standing = λ q _. rw (no_keys, no_positions) (λ (e : false ≡ true). cc, λ _. refl);
  counting = λ q _. rw (empty, no_positions) refl;
}

-- the set to which the key of p was added has the keys of the list with p at its end
pub keys-more : {S : Type 0} (ps : List Position) (keys more : HashSet Key S) (p : Position) → AreKeys ps keys → position_at (key_of p) ≡ p
    → ((k : Key) → contains same_key more k ≡ cond (same_key (key_of p) k) true (contains same_key keys k)) → AreKeys (ps ++ p ∷ []) more
keys-more ps keys more p are back updated q q_back =
    let parts : stands_in (ps ++ p ∷ []) q ≡ (stands_in ps q || stands_in (p ∷ []) q) = list_any-append (same_position q) ps (p ∷ []) in
    updated (key_of q) ∙ (rw (same_keys p q back q_back, are q q_back) (either (same_position q p) (stands_in ps q)) ∙ sym parts) where
      either : (here there : Bool) → cond here true there ≡ (there || (here || false))
      either true true = refl
      either true false = refl
      either false true = refl
      either false false = refl
