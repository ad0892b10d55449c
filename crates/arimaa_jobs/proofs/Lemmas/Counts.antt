-- Sums over seats, and lists of numbers.
use Rattle.std.proofs.Common.{◌≡◌, ℕ, zero, suc, ◌+◌, ◌-◌, ◌<◌, ◌≤◌, ◌≢◌, ◌⊎◌, true, List, [], ◌∷◌, ◌++◌, min, set, sym, refl, ap, arith}
use Rattle.std.proofs.lemmas.Bool.Decides.{nat_tests}
use Rattle.std.specs.Prelude.{nat_lt, if◌then◌else◌}
use mathlib.Core.Option.{some, some-injective, some-ne-none}
use lib.ListN.{get_elem?}
use Rattle.arimaa_jobs.specs.declared.view.SeatView.{SeatView}
use Rattle.arimaa_jobs.specs.Rule.{total, times, once_below, smallest_of, least_of, ends_above, view_after_draw, spent_view}

module _ (f : SeatView → ℕ) where
  pub total-set : (vs : List SeatView) (j : ℕ) (v w : SeatView) → get_elem? vs j ≡ some v → total f (set vs j w) + f v ≡ total f vs + f w
  total-set [] j v w e = absurd (some-ne-none v (sym e))
  total-set (x ∷ xs) zero v w e = let t : f x ≡ f v = ap f (some-injective x v e) in omega arith
  total-set (x ∷ xs) (suc j) v w e = let t = total-set xs j v w e in omega arith

  pub total-snoc : (vs : List SeatView) (w : SeatView) → total f (vs ++ w ∷ []) ≡ total f vs + f w
  total-snoc [] w = omega arith
  total-snoc (x ∷ xs) w = let t = total-snoc xs w in omega arith

  pub total-member : (vs : List SeatView) (j : ℕ) (v : SeatView) → get_elem? vs j ≡ some v → f v ≤ total f vs
  total-member [] j v e = absurd (some-ne-none v (sym e))
  total-member (x ∷ xs) zero v e = let t : f x ≡ f v = ap f (some-injective x v e) in omega arith
  total-member (x ∷ xs) (suc j) v e = let t = total-member xs j v e in omega arith

  -- the others have none
  pub total-none : (vs : List SeatView) → ((i : ℕ) (u : SeatView) → get_elem? vs i ≡ some u → f u ≡ 0) → total f vs ≡ 0
  total-none [] h = refl
  total-none (x ∷ xs) h = let a : f x ≡ 0 = h 0 x refl in let t = total-none xs (λ i u e. h (suc i) u e) in omega arith

  pub total-alone : (vs : List SeatView) (j : ℕ) (v : SeatView) → get_elem? vs j ≡ some v → ((i : ℕ) (u : SeatView) → i ≢ j → get_elem? vs i ≡ some u → f u ≡ 0) → total f vs ≡ f v
  total-alone [] j v e h = absurd (some-ne-none v (sym e))
  total-alone (x ∷ xs) zero v e h = let t : f x ≡ f v = ap f (some-injective x v e) in let r = total-none xs (λ i u d. h (suc i) u (λ q. omega arith) d) in omega arith
  total-alone (x ∷ xs) (suc j) v e h = let a : f x ≡ 0 = h 0 x (λ q. omega arith) refl in let t = total-alone xs j v e (λ i u n d. h (suc i) u (λ q. n (omega arith)) d) in omega arith

pub times-append : (x : ℕ) (xs ys : List ℕ) → times x (xs ++ ys) ≡ times x xs + times x ys
times-append x [] ys = omega arith
times-append x (y ∷ xs) ys = let t = times-append x xs ys in omega arith

pub apart_none : (x y : ℕ) → x ≢ y → times x (y ∷ []) ≡ 0
apart_none x y n = grind (arith, nat_tests)

pub once_here : (x : ℕ) → times x (x ∷ []) ≡ 1
once_here x = grind (arith, nat_tests)

pub once-suc : (x n : ℕ) → once_below x (n + 1) ≡ once_below x n + times x (n ∷ [])
once-suc x n = grind (arith, nat_tests)

pub once-in : (x n : ℕ) → x < n → once_below x n ≡ 1
once-in x n h = grind (arith, nat_tests)

pub once-most : (x n : ℕ) → once_below x n ≤ 1
once-most x n = grind (arith, nat_tests)

pub once-out : (x n : ℕ) → 0 < once_below x n → x < n
once-out x n h = grind (arith, nat_tests)

pub ends-snoc : (c : ℕ) (xs : List ℕ) (n : ℕ) → c ≤ n → ends_above c (xs ++ n ∷ []) ≡ true
ends-snoc c [] n h = grind (arith, nat_tests)
ends-snoc c (x ∷ []) n h = grind (arith, nat_tests)
ends-snoc c (x ∷ y ∷ xs) n h = ends-snoc c (y ∷ xs) n h

pub ends-append : (c : ℕ) (xs ys : List ℕ) → ends_above c ys ≡ true → ends_above c (xs ++ ys) ≡ true
ends-append c [] ys h = h
ends-append c (x ∷ []) [] h = cc
ends-append c (x ∷ []) (y ∷ ys) h = h
ends-append c (x ∷ x' ∷ xs) ys h = ends-append c (x' ∷ xs) ys h

pub spare-left : (n c s : ℕ) → ((n < c) × ((if nat_lt n c then s else s - 1) ≡ s)) ⊎ ((c ≤ n) × ((if nat_lt n c then s else s - 1) ≡ s - 1))
spare-left n c s = grind (arith, nat_tests)

module _ (c : ℕ) where
  pub smallest-append : (xs ys : List ℕ) → smallest_of c (xs ++ ys) ≡ min (smallest_of c xs) (smallest_of c ys)
  smallest-append [] ys = let t = smallest-small ys in omega arith
    where
      smallest-small : (zs : List ℕ) → smallest_of c zs ≤ c
      smallest-small [] = omega arith
      smallest-small (z ∷ zs) = let t = smallest-small zs in omega arith
  smallest-append (x ∷ xs) ys = let t = smallest-append xs ys in omega arith

  pub least-small : (vs : List SeatView) → least_of c vs ≤ c
  least-small [] = omega arith
  least-small (v ∷ vs) = let t = least-small vs in omega arith

  pub least-set : (vs : List SeatView) (j : ℕ) (v w : SeatView) (x : ℕ) → get_elem? vs j ≡ some v → smallest_of c w.reported ≡ min x (smallest_of c v.reported) → least_of c (set vs j w) ≡ min x (least_of c vs)
  least-set [] j v w x e s = absurd (some-ne-none v (sym e))
  least-set (u ∷ us) zero v w x e s = let t : smallest_of c u.reported ≡ smallest_of c v.reported = ap (λ (y : SeatView). smallest_of c y.reported) (some-injective u v e) in omega arith
  least-set (u ∷ us) (suc j) v w x e s = let t = least-set us j v w x e s in omega arith

  pub least-same : (vs : List SeatView) (j : ℕ) (v w : SeatView) → get_elem? vs j ≡ some v → w.reported ≡ v.reported → least_of c (set vs j w) ≡ least_of c vs
  least-same [] j v w e s = absurd (some-ne-none v (sym e))
  least-same (u ∷ us) zero v w e s = let t : smallest_of c u.reported ≡ smallest_of c v.reported = ap (λ (y : SeatView). smallest_of c y.reported) (some-injective u v e) in
      let s' : smallest_of c w.reported ≡ smallest_of c v.reported = ap (smallest_of c) s in omega arith
  least-same (u ∷ us) (suc j) v w e s = let t = least-same us j v w e s in omega arith

  pub least-spent : (vs : List SeatView) (j : ℕ) (w : SeatView) → get_elem? vs j ≡ some w → least_of c vs ≡ min (smallest_of c w.reported) (least_of c (set vs j spent_view))
  least-spent [] j w e = absurd (some-ne-none w (sym e))
  least-spent (u ∷ us) zero w e = let t : smallest_of c u.reported ≡ smallest_of c w.reported = ap (λ (y : SeatView). smallest_of c y.reported) (some-injective u w e) in let l = least-small us in omega arith
  least-spent (u ∷ us) (suc j) w e = let t = least-spent us j w e in omega arith

  pub least-member : (vs : List SeatView) (j : ℕ) (v : SeatView) → get_elem? vs j ≡ some v → least_of c vs ≤ smallest_of c v.reported
  least-member [] j v e = absurd (some-ne-none v (sym e))
  least-member (u ∷ us) zero v e = let t : smallest_of c u.reported ≡ smallest_of c v.reported = ap (λ (y : SeatView). smallest_of c y.reported) (some-injective u v e) in omega arith
  least-member (u ∷ us) (suc j) v e = let t = least-member us j v e in omega arith

  pub least-snoc : (vs : List SeatView) (w : SeatView) → w.reported ≡ [] → least_of c (vs ++ w ∷ []) ≡ least_of c vs
  least-snoc [] w e = let s : smallest_of c w.reported ≡ c = ap (smallest_of c) e in omega arith
  least-snoc (u ∷ us) w e = let t = least-snoc us w e in omega arith

  pub least-alone : (vs : List SeatView) (j : ℕ) (v : SeatView) → get_elem? vs j ≡ some v → ((i : ℕ) (u : SeatView) → i ≢ j → get_elem? vs i ≡ some u → u.reported ≡ []) → least_of c vs ≡ smallest_of c v.reported
  least-alone [] j v e h = absurd (some-ne-none v (sym e))
  least-alone (u ∷ us) zero v e h = let t : smallest_of c u.reported ≡ smallest_of c v.reported = ap (λ (y : SeatView). smallest_of c y.reported) (some-injective u v e) in
      let r = nothing us (λ i w d. h (suc i) w (λ q. omega arith) d) in let b = small v.reported in omega arith
    where
      small : (zs : List ℕ) → smallest_of c zs ≤ c
      small [] = omega arith
      small (z ∷ zs) = let t = small zs in omega arith

      nothing : (ws : List SeatView) → ((i : ℕ) (w : SeatView) → get_elem? ws i ≡ some w → w.reported ≡ []) → least_of c ws ≡ c
      nothing [] h' = refl
      nothing (w ∷ ws) h' = let a : smallest_of c w.reported ≡ c = ap (smallest_of c) (h' 0 w refl) in let t = nothing ws (λ i y d. h' (suc i) y d) in omega arith
  least-alone (u ∷ us) (suc j) v e h = let a : smallest_of c u.reported ≡ c = ap (smallest_of c) (h 0 u (λ q. omega arith) refl) in
      let t = least-alone us j v e (λ i w n d. h (suc i) w (λ q. n (omega arith)) d) in let b = small v.reported in omega arith
    where
      small : (zs : List ℕ) → smallest_of c zs ≤ c
      small [] = omega arith
      small (z ∷ zs) = let t = small zs in omega arith

-- a draw of a number that is not below the count
pub drew-dry : (v : SeatView) (n : ℕ) → v.count ≤ n → ends_above v.count (view_after_draw v n).drawn ≡ true
drew-dry v n h = ends-snoc v.count v.drawn n h
