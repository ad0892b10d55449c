-- What follows from what a seat knows.
use Rattle.std.proofs.Common.{◌≡◌, ℕ, zero, suc, ◌+◌, ◌-◌, ◌<◌, ◌≤◌, ◌⊎◌, ⊎_elim, true, false, List, [], ◌∷◌, ◌++◌, max, inl, inr, refl, sym, subst, arith}
use Rattle.std.proofs.lemmas.Bool.Decides.{nat_tests}
use native.Mathlib.Decide.{ℕ_discrete}
use Rattle.arimaa_jobs.specs.declared.view.SeatView.{SeatView}
use Rattle.arimaa_jobs.specs.Rule.{Stands, IsAbove, WholeSees, times, smallest_of, ends_above, view_after_draw}
use Rattle.arimaa_jobs.proofs.Lemmas.Counts.{times-append, once_here, apart_none}

-- one more than the greatest of these, or 0
abbrev pub past : List ℕ → ℕ
past [] = 0
past (x ∷ xs) = max (x + 1) (past xs)

past-snoc : (xs : List ℕ) (n : ℕ) → past (xs ++ n ∷ []) ≡ max (past xs) (n + 1)
past-snoc [] n = omega arith
past-snoc (x ∷ xs) n = let t = past-snoc xs n in omega arith

past-below : (xs : List ℕ) (n : ℕ) → IsAbove n xs → past xs ≤ n
past-below [] n h = omega arith
past-below (x ∷ xs) n h = let t = past-below xs n (λ y s. h y (omega arith)) in let a = h x (let o = once_here x in omega arith) in omega arith

-- each job that a seat draws leaves fewer to draw
pub fewer-left : (v w : SeatView) (k : ℕ) → k < v.count → IsAbove k v.drawn → w ≡ view_after_draw v k → w.count - past w.drawn < v.count - past v.drawn
fewer-left v w k small above e = subst (λ (u : SeatView). u.count - past u.drawn < v.count - past v.drawn) (sym e) (let a = past-snoc v.drawn k in let b = past-below v.drawn k above in omega arith)

-- what stands in a longer list is the new one, or stood there before
pub stands-snoc : (x n : ℕ) (xs : List ℕ) → Stands x (xs ++ n ∷ []) → (x ≡ n) ⊎ Stands x xs
stands-snoc x n xs s = pick (ℕ_discrete x n)
  where
    pick : Dec (x ≡ n) → (x ≡ n) ⊎ Stands x xs
    pick (yes e) = inl e
    pick (no m) = inr (let a = times-append x xs (n ∷ []) in let z = apart_none x n m in omega arith)

pub stands-first : (x : ℕ) (xs ys : List ℕ) → Stands x xs → Stands x (xs ++ ys)
stands-first x xs ys s = let a = times-append x xs ys in omega arith

pub stands-second : (x : ℕ) (xs ys : List ℕ) → Stands x ys → Stands x (xs ++ ys)
stands-second x xs ys s = let a = times-append x xs ys in omega arith

pub stands-last : (x : ℕ) (xs : List ℕ) → Stands x (xs ++ x ∷ [])
stands-last x xs = let a = times-append x xs (x ∷ []) in let o = once_here x in omega arith

-- what stands in two lists together stands in one of them
pub stands-either : (x : ℕ) (xs ys : List ℕ) → Stands x (xs ++ ys) → Stands x xs ⊎ Stands x ys
stands-either x xs ys s = pick (times x xs) refl
  where
    pick : (n : ℕ) → times x xs ≡ n → Stands x xs ⊎ Stands x ys
    pick zero e = inr (let a = times-append x xs ys in omega arith)
    pick (suc n) e = inl (omega arith)

-- a seat whose last number is no job has drawn such a number
pub ends-stands : (c : ℕ) (xs : List ℕ) → ends_above c xs ≡ true → (n : ℕ) × Stands n xs × (c ≤ n)
ends-stands c [] e = absurd (false_true e)
  where
    false_true : false ≡ true → ⊥
    false_true p = cc
ends-stands c (x ∷ []) e = (x, (let o = once_here x in omega arith), grind (arith, nat_tests))
ends-stands c (x ∷ y ∷ ys) e = let t = ends-stands c (y ∷ ys) e in (t.0, (let s = t.1 in omega arith), t.2)

-- the smallest is not above any of them, nor above the count
pub smallest-least : (c x : ℕ) (xs : List ℕ) → Stands x xs → smallest_of c xs ≤ x
smallest-least c x [] s = absurd (omega arith)
smallest-least c x (y ∷ ys) s = pick (ℕ_discrete x y) (λ h. smallest-least c x ys h)
  where
    pick : Dec (x ≡ y) → (Stands x ys → smallest_of c ys ≤ x) → smallest_of c (y ∷ ys) ≤ x
    pick (yes e) further = omega arith
    pick (no m) further = let z = apart_none x y m in let t = further (omega arith) in omega arith

pub smallest-count : (c : ℕ) (xs : List ℕ) → smallest_of c xs ≤ c
smallest-count c [] = omega arith
smallest-count c (x ∷ xs) = let t = smallest-count c xs in omega arith

-- where it is below the count, it is one of them
pub smallest-stands : (c : ℕ) (xs : List ℕ) → smallest_of c xs < c → Stands (smallest_of c xs) xs
smallest-stands c [] l = absurd (omega arith)
smallest-stands c (x ∷ xs) l = pick (λ (small : smallest_of c xs < c). smallest-stands c xs small) (within x (smallest_of c xs))
  where
    within : (a b : ℕ) → (a ≤ b) ⊎ (b < a)
    within zero b = inl (omega arith)
    within (suc a) zero = inr (omega arith)
    within (suc a) (suc b) = ⊎_elim (λ (h : a ≤ b). inl (omega arith)) (λ (h : b < a). inr (omega arith)) (within a b)

    pick : (smallest_of c xs < c → Stands (smallest_of c xs) xs) → ((x ≤ smallest_of c xs) ⊎ (smallest_of c xs < x)) → Stands (smallest_of c (x ∷ xs)) (x ∷ xs)
    pick deep (inl low) = let e : smallest_of c (x ∷ xs) ≡ x = omega arith in subst (λ (y : ℕ). Stands y (x ∷ xs)) (sym e) (let o = once_here x in omega arith)
    pick deep (inr high) =
        let e : smallest_of c (x ∷ xs) ≡ smallest_of c xs = omega arith in
        let there = deep (omega arith) in
        subst (λ (y : ℕ). Stands y (x ∷ xs)) (sym e) (omega arith)

-- the whole seat drew every job, once one of its numbers is no job
pub drew-all : (v : SeatView) (least : ℕ) → WholeSees v least → ends_above v.count v.drawn ≡ true → (x : ℕ) → x < v.count → Stands x v.drawn
drew-all v least sees ended x small = let n = ends-stands v.count v.drawn ended in sees.all n.0 n.1 n.2 x small
