-- The barred positions of a history: those that stand at least twice, each once.
use Rattle.std.proofs.Common.{◌≡◌, ℕ, ◌+◌, ◌<◌, ◌≤◌, List, [], ◌∷◌, ◌++◌, true, false, cond, Bool, not, ◌⊎◌, inl, inr, ⊎_elim, refl, sym, ◌∙◌, ap, subst, arith, nat_le, append_assoc, append-nil}
use Rattle.std.specs.Prelude.{◌==◌}
use Rattle.std.specs.List.{filter}
use Rattle.std.proofs.lemmas.Bool.{eqb-true, leb-true, le-leb, cases_Bool, cases_lt, both_ways, false_from_ne_true}
use Rattle.std.proofs.lemmas.List.Sums.{sum_by-append, sum_by-cons}
use Rattle.arimaa_board.specs.declared.position.Position.{Position}
use Rattle.arimaa_model.specs.Members.{AreDistinct}
use Rattle.arimaa_model.specs.Results.{same_position, stands_in, results, next}
use Rattle.arimaa_model.specs.Game.{count_in, if_second, second_after, barred_by, lawful_at}
use Rattle.arimaa_model.proofs.Lemmas.Members.{In}
use Rattle.arimaa_model.proofs.Lemmas.Positions.{same_position-Decides, same_position-same, stands-In, In-stands}

abbrev pub one_if : Position → Position → ℕ
one_if x q = cond (same_position x q) 1 0

pub count-cons : (q : Position) (h : List Position) (x : Position) → count_in (q ∷ h) x ≡ one_if x q + count_in h x
count-cons q h x = sum_by-cons (one_if x) q h

pub count-append : (g h : List Position) (x : Position) → count_in (g ++ h) x ≡ count_in g x + count_in h x
count-append g h x = sum_by-append (one_if x) g h

-- a count of a position after one more, where it is that one, and where it isn't
pub one_same : (x q : Position) → x ≡ q → one_if x q ≡ 1
one_same x q e = rw (same_position-same x q e) refl

pub one_other : (x q : Position) → (x ≡ q → ⊥) → one_if x q ≡ 0
one_other x q differ = let other : same_position x q ≡ false = false_from_ne_true _ (λ e. differ ((same_position-Decides x q).0 e)) in rw other refl

-- what stands behind if_second
second-keep : (before : List Position) (q x : Position) (others : List Position) → In x others → In x (if_second before q others)
second-keep before q x others i = elim (count_in before q == 1) as (λ v. In x (cond v (q ∷ others) others)) [ true ↦ inr i | false ↦ i ]

second-here : (before : List Position) (q : Position) (others : List Position) → count_in before q ≡ 1 → In q (if_second before q others)
second-here before q others e =
    let once : (count_in before q == 1) ≡ true = rw e refl in
    subst (λ (v : Bool). In q (cond v (q ∷ others) others)) (sym once) (inl refl)

second-cases : (before : List Position) (q x : Position) (others : List Position) → In x (if_second before q others) → ((x ≡ q) × (count_in before q ≡ 1)) ⊎ In x others
second-cases before q x others i =
    elim (count_in before q == 1) as (λ v. (count_in before q == 1) ≡ v → In x (cond v (q ∷ others) others) → ((x ≡ q) × (count_in before q ≡ 1)) ⊎ In x others) [
      | true ↦ λ once j. ⊎_elim (λ e. inl (e, eqb-true _ _ once)) (λ k. inr k) j
      | false ↦ λ _ j. inr j
    ] refl i

count-next : (before : List Position) (q x : Position) → count_in (before ++ q ∷ []) x ≡ count_in before x + one_if x q
count-next before q x = count-append before (q ∷ []) x ∙ ap (λ n. count_in before x + n) (count-cons q [] x ∙ omega arith)

-- what stands for the second time stands at least twice
second-twice : (before h : List Position) (x : Position) → In x (second_after before h) → 2 ≤ count_in before x + count_in h x
second-twice before [] x i = absurd i
second-twice before (q ∷ h) x i =
    let whole = count-cons q h x in
    ⊎_elim
    (λ here.
    let same : one_if x q ≡ 1 = one_same x q here.0 in
    let once : count_in before x ≡ 1 = subst (λ (y : Position). count_in before y ≡ 1) (sym here.0) here.1 in
    omega (arith, whole, same, once))
    (λ later.
    let deep = second-twice (before ++ q ∷ []) h x later in
    let more = count-next before q x in
    omega (arith, whole, deep, more))
    (second-cases before q x (second_after (before ++ q ∷ []) h) i)

-- what stands at least twice, and not twice already, stands for the second time
twice-second : (before h : List Position) (x : Position) → count_in before x ≤ 1 → 2 ≤ count_in before x + count_in h x → In x (second_after before h)
twice-second before [] x few many = absurd (omega arith)
twice-second before (q ∷ h) x few many =
    let whole = count-cons q h x in
    let more = count-next before q x in
    let rest = second_after (before ++ q ∷ []) h in
    elim (cases_Bool (same_position x q)) [
      | inl e ↦
          let same : x ≡ q = (same_position-Decides x q).0 e in
          let one : one_if x q ≡ 1 = one_same x q same in
          ⊎_elim
          (λ (fresh : count_in before x < 1). second-keep before q x rest (twice-second (before ++ q ∷ []) h x (omega (arith, more, one)) (omega (arith, more, one, whole))))
          (λ (there : 1 ≤ count_in before x).
          let once : count_in before q ≡ 1 = subst (λ (y : Position). count_in before y ≡ 1) same (omega arith) in
          subst (λ (y : Position). In y (if_second before q rest)) (sym same) (second-here before q rest once))
          (cases_lt (count_in before x) 1)
      | inr e ↦
          let zero_here : one_if x q ≡ 0 = rw e refl in
          second-keep before q x rest (twice-second (before ++ q ∷ []) h x (omega (arith, more, zero_here)) (omega (arith, more, zero_here, whole)))
    ]

-- one position more at the end
second-more : (before h : List Position) (q : Position) → second_after before (h ++ q ∷ []) ≡ second_after before h ++ if_second (before ++ h) q []
second-more before [] q = ap (λ (b : List Position). if_second b q []) (sym (append-nil before))
second-more before (p ∷ h) q =
    let deep = second-more (before ++ p ∷ []) h q in
    let joined : (before ++ p ∷ []) ++ h ≡ before ++ p ∷ h = append_assoc before (p ∷ []) h in
    let rest = second_after (before ++ p ∷ []) h in
    let last = if_second (before ++ p ∷ h) q [] in
    let inside : second_after (before ++ p ∷ []) (h ++ q ∷ []) ≡ rest ++ last = deep ∙ ap (λ (b : List Position). rest ++ if_second b q []) joined in
    ap (if_second before p) inside ∙ second-front before p rest last where
      second-front : (b : List Position) (p : Position) (xs ys : List Position) → if_second b p (xs ++ ys) ≡ if_second b p xs ++ ys
      second-front b p xs ys = elim (count_in b p == 1) as (λ v. cond v (p ∷ xs ++ ys) (xs ++ ys) ≡ cond v (p ∷ xs) xs ++ ys) [ true ↦ refl | false ↦ refl ]

pub barred-more : (h : List Position) (q : Position) → barred_by (h ++ q ∷ []) ≡ barred_by h ++ if_second h q []
unfolding barred_by
barred-more h q = second-more [] h q

-- the barred positions of a history are those that stand at least twice
pub barred-twice : (h : List Position) (x : Position) → stands_in (barred_by h) x ≡ true → 2 ≤ count_in h x
unfolding barred_by
barred-twice h x stands = let many = second-twice [] h x (stands-In _ x stands) in omega (arith, many)

pub twice-barred : (h : List Position) (x : Position) → 2 ≤ count_in h x → stands_in (barred_by h) x ≡ true
unfolding barred_by
twice-barred h x many = let more : 2 ≤ count_in [] x + count_in h x = omega (arith, many) in In-stands _ x (twice-second [] h x (omega arith) more)

pub once-unbarred : (h : List Position) (x : Position) → stands_in (barred_by h) x ≡ false → count_in h x ≤ 1
once-unbarred h x fails =
    ⊎_elim
    (λ (few : count_in h x < 2). omega arith)
    (λ (many : 2 ≤ count_in h x). absurd (both_ways _ fails (twice-barred h x many)))
    (cases_lt (count_in h x) 2)

-- none stands there twice
second-distinct : (before h : List Position) → AreDistinct (second_after before h)
second-distinct before [] = tt
second-distinct before (q ∷ h) =
    let rest = second_after (before ++ q ∷ []) h in
    let deep = second-distinct (before ++ q ∷ []) h in
    elim (count_in before q == 1) as (λ v. (count_in before q == 1) ≡ v → AreDistinct (cond v (q ∷ rest) rest)) [
      | true ↦ λ once. (λ stands. absurd (past (before ++ q ∷ []) h q (twice_now once) (stands-In rest q stands)), deep)
      | false ↦ λ _. deep
    ] refl where
      twice_now : (count_in before q == 1) ≡ true → 2 ≤ count_in (before ++ q ∷ []) q
      twice_now once = let one = one_same q q refl in let more = count-next before q q in let was = eqb-true (count_in before q) 1 once in omega (arith, one, more, was)

      past : (b g : List Position) (x : Position) → 2 ≤ count_in b x → In x (second_after b g) → ⊥
      past b [] x many i = i
      past b (p ∷ g) x many i =
          ⊎_elim
          (λ here. let once : count_in b x ≡ 1 = subst (λ (y : Position). count_in b y ≡ 1) (sym here.0) here.1 in omega (arith, once))
          (λ later. past (b ++ p ∷ []) g x (let more = count-next b p x in omega (arith, more)) later)
          (second-cases b p x (second_after (b ++ p ∷ []) g) i)

pub barred-distinct : (h : List Position) → AreDistinct (barred_by h)
unfolding barred_by
barred-distinct h = second-distinct [] h

-- what a turn may bring about are the results that are not barred
pub unbarred-lawful : (h : List Position) (x : Position) → not (stands_in (barred_by h) x) ≡ nat_le (count_in h x) 1
unbarred-lawful h x =
    elim (cases_Bool (stands_in (barred_by h) x)) [
      | inl e ↦ let many = barred-twice h x e in rw e (sym (false_from_ne_true _ (λ low. let few = leb-true (count_in h x) 1 low in omega (arith, many, few))))
      | inr e ↦ rw e (sym (le-leb (count_in h x) 1 (once-unbarred h x e)))
    ]

filter_same : (f g : Position → Bool) → ((x : Position) → f x ≡ g x) → (xs : List Position) → filter f xs ≡ filter g xs
filter_same f g same [] = refl
filter_same f g same (x ∷ xs) =
    let deep = filter_same f g same xs in
    ap (λ (v : Bool). cond v (x ∷ filter f xs) (filter f xs)) (same x) ∙ ap (λ (ys : List Position). cond (g x) (x ∷ ys) ys) deep

pub next-lawful : (h : List Position) (p : Position) → next (barred_by h) p ≡ lawful_at h p
next-lawful h p = filter_same (λ q. not (stands_in (barred_by h) q)) (λ q. nat_le (count_in h q) 1) (unbarred-lawful h) (results p)
