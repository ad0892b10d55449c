-- Where the escapes of positions stand.
use Rattle.std.proofs.Common.{◌≡◌, ℕ, suc, ◌<◌, max, List, [], ◌∷◌, ◌++◌, length, map, take, Option, None, Some, is_some, Bool, true, false, cond, ◌&&◌, ◌||◌, refl, sym, ◌∙◌, ap, arith, true≢false}
use Rattle.std.specs.Prelude.{nat_le, nat_lt}
use Rattle.std.specs.Option.{option_map, option_or}
use Rattle.std.specs.HashMap.{HashMap, get}
use Rattle.std.specs.Bool.{Decides}
use Rattle.std.proofs.lemmas.List.{length-map, take-map}
use Rattle.std.proofs.lemmas.Bool.Decides.{nat_tests, Decides-like, same_from_decides}
use Rattle.arimaa_board.specs.declared.position.Position.{Position}
use Rattle.arimaa_model.specs.Results.{same_position, stands_in}
use Rattle.arimaa_model.specs.Strategies.{find_entry}
use Rattle.arimaa_model.proofs.Lemmas.Positions.{same_position-Decides}
use Rattle.arimaa_forced.specs.declared.entry.Entry.{Entry}
use Rattle.arimaa_forced.specs.Entries.{planned_of}
use Rattle.arimaa_history.specs.declared.key.Key.{Key}
use Rattle.arimaa_history.specs.Keys.{key_of, position_at}
use Rattle.arimaa_history.specs.Counts.{same_key}
use Rattle.arimaa_history.proofs.Lemmas.KeyTests.{keys_same}
use Rattle.arimaa_strategy.specs.Entries.{plan_of, place_of}
use Rattle.arimaa_strategy.proofs.Lemmas.PlaceLaws.{is_before, found_before, place_more}
use Rattle.arimaa_refute.specs.declared.escape.Escape.{Escape}
use Rattle.arimaa_refute.specs.declared.place.Place.{Place}
use Rattle.arimaa_refute.specs.Escapes.{entry_of, has_escape}
use Rattle.arimaa_refute.specs.Flaws.{positions_of}
use Rattle.arimaa_refute.specs.Places.{depth_of, place_with, place_in, AreKept}
use Rattle.arimaa_refute.proofs.Lemmas.EscapeReading.{map-more}
use Rattle.arimaa_record.proofs.Lemmas.PlainLaws.{all_more}

-- ---- among the first ones

same-turned : (p q : Position) → same_position q p ≡ same_position p q
same-turned p q =
    let turned : Decides (same_position q p) (p ≡ q) =
    Decides-like (same_position q p) (λ (e : q ≡ p). sym e) (λ (e : p ≡ q). sym e) (same_position-Decides q p) in
    same_from_decides (same_position q p) (same_position p q) turned (same_position-Decides p q)

positions-found : (c : List Escape) (q : Position) → stands_in (positions_of c) q ≡ is_some (find_entry (plan_of (map entry_of c)) q)
positions-found [] q = refl
positions-found (e ∷ c) q =
    elim (same_position e.position q) as (λ v. same_position q e.position ≡ v → (same_position q e.position || stands_in (positions_of c) q) ≡ is_some (cond v (Some (planned_of (entry_of e))) (find_entry (plan_of (map entry_of c)) q))) [
      | true ↦ λ h. rw h refl
      | false ↦ λ h. rw h (positions-found c q)
    ] (same-turned e.position q)

-- whether what is kept stands before a number
abbrev pub is_early : ℕ → Option Place → Bool
is_early n None = false
is_early n (Some p) = nat_lt p.first n

early-map : (n d : ℕ) (o : Option ℕ) → is_early n (option_map (λ k. record { first = k; depth = d }) o) ≡ is_before n o
early-map n d None = refl
early-map n d (Some k) = refl

-- a position has an escape among the first n just where its place is before n
pub early-stands : (c : List Escape) (q : Position) (n : ℕ) → is_early n (place_in c q) ≡ stands_in (positions_of (take n c)) q
early-stands c q n =
    early-map n (depth_of c q) (place_of (map entry_of c) q)
    ∙ sym (positions-found (take n c) q
    ∙ (ap (λ (l : List Entry). is_some (find_entry (plan_of l) q)) (sym (take-map entry_of n c)) ∙ found_before (map entry_of c) q n))

-- ---- depths

-- whether what is kept is at least so deep
abbrev pub is_deep : ℕ → Option Place → Bool
is_deep k None = false
is_deep k (Some p) = nat_le k p.depth

le-max : (k x y : ℕ) → (nat_le k x || nat_le k y) ≡ nat_le k (max x y)
le-max k x y = grind (arith, nat_tests)

-- no escape, and no depth
some-later : (o : Option ℕ) → is_some (option_map (λ k. suc k) o) ≡ is_some o
some-later None = refl
some-later (Some k) = refl

depth-none : (c : List Escape) (q : Position) → is_some (place_of (map entry_of c) q) ≡ false → depth_of c q ≡ 0
depth-none [] q h = refl
depth-none (e ∷ c) q h =
    elim (same_position e.position q) as (λ v. is_some (cond v (Some 0) (option_map (λ k. suc k) (place_of (map entry_of c) q))) ≡ false → cond v (max e.depth (depth_of c q)) (depth_of c q) ≡ 0) [
      | true ↦ λ wrong. absurd (true≢false wrong)
      | false ↦ λ none. depth-none c q (sym (some-later (place_of (map entry_of c) q)) ∙ none)
    ] h

here-deep : (k x d : ℕ) (some : Bool) → (some ≡ false → d ≡ 0) → (nat_le k x || (some && nat_le k d)) ≡ nat_le k (max x d)
here-deep k x d true none = le-max k x d
here-deep k x d false none = let zero_deep = none refl in grind (arith, nat_tests, zero_deep)

deep-some : (c : List Escape) (q : Position) (k : ℕ) → has_escape c q k ≡ (is_some (place_of (map entry_of c) q) && nat_le k (depth_of c q))
deep-some [] q k = refl
deep-some (e ∷ c) q k =
    elim (same_position e.position q) as (λ v. ((v && nat_le k e.depth) || has_escape c q k) ≡ (is_some (cond v (Some 0) (option_map (λ k. suc k) (place_of (map entry_of c) q))) && nat_le k (cond v (max e.depth (depth_of c q)) (depth_of c q)))) [
      | true ↦ ap (λ b. nat_le k e.depth || b) (deep-some c q k) ∙ here-deep k e.depth (depth_of c q) (is_some (place_of (map entry_of c) q)) (depth-none c q)
      | false ↦ deep-some c q k ∙ sym (ap (λ b. b && nat_le k (depth_of c q)) (some-later (place_of (map entry_of c) q)))
    ]

deep-map : (k d : ℕ) (o : Option ℕ) → is_deep k (option_map (λ f. record { first = f; depth = d }) o) ≡ (is_some o && nat_le k d)
deep-map k d None = refl
deep-map k d (Some f) = refl

-- a position has an escape that is deep enough just where its greatest depth is
pub deep-has : (c : List Escape) (q : Position) (k : ℕ) → is_deep k (place_in c q) ≡ has_escape c q k
deep-has c q k = deep-map k (depth_of c q) (place_of (map entry_of c) q) ∙ sym (deep-some c q k)

-- ---- one more escape

depth-more : (c : List Escape) (e : Escape) (q : Position) → depth_of (c ++ e ∷ []) q ≡ cond (same_position e.position q) (max (depth_of c q) e.depth) (depth_of c q)
depth-more [] e q = let same : max e.depth 0 ≡ max 0 e.depth = omega arith in ap (λ m. cond (same_position e.position q) m 0) same
depth-more (x ∷ c) e q =
    elim (same_position x.position q) as (λ v. cond v (max x.depth (depth_of (c ++ e ∷ []) q)) (depth_of (c ++ e ∷ []) q) ≡ cond (same_position e.position q) (max (cond v (max x.depth (depth_of c q)) (depth_of c q)) e.depth) (cond v (max x.depth (depth_of c q)) (depth_of c q))) [
      | true ↦ ap (λ m. max x.depth m) (depth-more c e q) ∙ inside (same_position e.position q) x.depth (depth_of c q) e.depth
      | false ↦ depth-more c e q
    ]
  where
    inside : (v : Bool) (x d y : ℕ) → max x (cond v (max d y) d) ≡ cond v (max (max x d) y) (max x d)
    inside true x d y = omega arith
    inside false x d y = refl

-- what is kept, by a place and a depth
abbrev kept_by : Option ℕ → ℕ → Option Place
kept_by o d = option_map (λ k. record { first = k; depth = d }) o

with-here : (o : Option ℕ) (d n y : ℕ) → (is_some o ≡ false → d ≡ 0) → Some (place_with (kept_by o d) n y) ≡ kept_by (option_or o (Some n)) (max d y)
with-here None d n y none = let zero_deep = none refl in let same : y ≡ max d y = omega (arith, zero_deep) in ap (λ m. Some (record { first = n; depth = m })) same
with-here (Some k) d n y none = refl

with-none : (o : Option ℕ) (d : ℕ) → kept_by o d ≡ kept_by (option_or o None) d
with-none None d = refl
with-none (Some k) d = refl

place-is : (c : List Escape) (e : Escape) (q : Position) → place_in (c ++ e ∷ []) q ≡ kept_by (option_or (place_of (map entry_of c) q) (cond (same_position e.position q) (Some (length c)) None)) (cond (same_position e.position q) (max (depth_of c q) e.depth) (depth_of c q))
place-is c e q =
    let place = ap (λ (l : List Entry). place_of l q) (map-more c e) ∙ (place_more (map entry_of c) (entry_of e) q ∙ ap (λ n. option_or (place_of (map entry_of c) q) (cond (same_position e.position q) (Some n) None)) (length-map c entry_of)) in
    λ i. kept_by (place i) (depth-more c e q i)

place-more : (c : List Escape) (e : Escape) (q : Position) → cond (same_position e.position q) (Some (place_with (place_in c e.position) (length c) e.depth)) (place_in c q) ≡ place_in (c ++ e ∷ []) q
place-more c e q =
    elim (same_position e.position q) as (λ v. same_position e.position q ≡ v
    → cond v (Some (place_with (place_in c e.position) (length c) e.depth)) (place_in c q) ≡ kept_by (option_or (place_of (map entry_of c) q) (cond v (Some (length c)) None)) (cond v (max (depth_of c q) e.depth) (depth_of c q))) [
      | true ↦ λ same.
          ap (λ (x : Position). Some (place_with (place_in c x) (length c) e.depth)) ((same_position-Decides e.position q).0 same)
          ∙ with-here (place_of (map entry_of c) q) (depth_of c q) (length c) e.depth (depth-none c q)
      | false ↦ λ _. with-none (place_of (map entry_of c) q) (depth_of c q)
    ] refl
    ∙ sym (place-is c e q)

-- one more escape, which has been filed under the key of its position
pub kept-more : {S : Type 0} (c : List Escape) (e : Escape) (old new : HashMap Key Place S) → AreKept c old → position_at (key_of e.position) ≡ e.position → 0 < length e.turn
    → ((k : Key) → get same_key new k ≡ cond (same_key (key_of e.position) k) (Some (place_with (get same_key old (key_of e.position)) (length c) e.depth)) (get same_key old k)) → AreKept (c ++ e ∷ []) new
kept-more c e old new kept back some filed = record {
  steps = all_more (λ (x : Escape). 0 < length x.turn) c e kept.steps some;
  placed = λ q q_back.
      filed (key_of q)
      ∙ ((λ i. cond (keys_same e.position q back q_back i) (Some (place_with (kept.placed e.position back i) (length c) e.depth)) (kept.placed q q_back i))
      ∙ place-more c e q);
}
