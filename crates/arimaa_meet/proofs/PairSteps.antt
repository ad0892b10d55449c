-- The pairs, one program after another.
use Rattle.std.proofs.Common.{◌≡◌, ℕ, ◌+◌, List, [], ◌∷◌, ◌++◌, map, filter, Bool, true, false, not, cond, add-one, eqb, append-nil, ◌∙◌, ap}
use Rattle.std.specs.List.{flat_map}
use Rattle.std.proofs.lemmas.Bool.{eq-eqb, ne_eqb}
use Rattle.std.proofs.lemmas.Grind.{flat_map-append}
use Rattle.arimaa_meet.specs.declared.match_count.Counted.{Counted}
use Rattle.arimaa_meet.specs.declared.pairs.Pair.{Pair}
use Rattle.arimaa_meet.specs.Pairs.{numbers, pairs_with_gold}
use Rattle.arimaa_meet.specs.Report.{text_of_score, text_of_table}
use Rattle.arimaa_meet.specs.Scores.{score_of}

-- one number more
pub numbers_more : (n : ℕ) → numbers (n + 1) ≡ numbers n ++ (n + 1) ∷ []
numbers_more n = rw add-one

-- a last element that passes the test
kept_last : {A B : Type 0} (f : A → B) (p : A → Bool) (xs : List A) (x : A) → p x ≡ true
    → map f (filter p (xs ++ x ∷ [])) ≡ map f (filter p xs) ++ f x ∷ []
kept_last f p [] x e = rw e
kept_last {A} {B} f p (y ∷ ys) x e =
    elim (p y) as (λ (b : Bool). map f (cond b (y ∷ filter p (ys ++ x ∷ [])) (filter p (ys ++ x ∷ [])))
    ≡ map f (cond b (y ∷ filter p ys) (filter p ys)) ++ f x ∷ [])
    [ true ↦ ap (λ (l : List B). f y ∷ l) (kept_last f p ys x e) | false ↦ kept_last f p ys x e ]

-- and one that doesn't
dropped_last : {A B : Type 0} (f : A → B) (p : A → Bool) (xs : List A) (x : A) → p x ≡ false
    → map f (filter p (xs ++ x ∷ [])) ≡ map f (filter p xs)
dropped_last f p [] x e = rw e
dropped_last {A} {B} f p (y ∷ ys) x e =
    elim (p y) as (λ (b : Bool). map f (cond b (y ∷ filter p (ys ++ x ∷ [])) (filter p (ys ++ x ∷ [])))
    ≡ map f (cond b (y ∷ filter p ys) (filter p ys)))
    [ true ↦ ap (λ (l : List B). f y ∷ l) (dropped_last f p ys x e) | false ↦ dropped_last f p ys x e ]

-- a program is paired with the next one, unless that is itself
pub pairs_other : (n gold : ℕ) → (n + 1 ≡ gold → ⊥)
    → pairs_with_gold (n + 1) gold ≡ pairs_with_gold n gold ++ record { gold = gold; silver = n + 1 } ∷ []
pairs_other n gold apart =
    ap (λ (l : List ℕ). map (λ (silver : ℕ). let p : Pair = record { gold = gold; silver = silver } in p)
    (filter (λ silver. not (eqb silver gold)) l)) (numbers_more n)
    ∙ kept_last (λ (silver : ℕ). let p : Pair = record { gold = gold; silver = silver } in p)
    (λ silver. not (eqb silver gold)) (numbers n) (n + 1) (ap not (ne_eqb (n + 1) gold apart))

pub pairs_itself : (n gold : ℕ) → n + 1 ≡ gold
    → pairs_with_gold (n + 1) gold ≡ pairs_with_gold n gold
pairs_itself n gold same =
    ap (λ (l : List ℕ). map (λ (silver : ℕ). let p : Pair = record { gold = gold; silver = silver } in p)
    (filter (λ silver. not (eqb silver gold)) l)) (numbers_more n)
    ∙ dropped_last (λ (silver : ℕ). let p : Pair = record { gold = gold; silver = silver } in p)
    (λ silver. not (eqb silver gold)) (numbers n) (n + 1) (ap not (eq-eqb (n + 1) gold same))

-- what one number more brings
pub flat_more : {A : Type 0} (f : ℕ → List A) (n : ℕ)
    → flat_map f (numbers (n + 1)) ≡ flat_map f (numbers n) ++ f (n + 1)
flat_more {A} f n =
    ap (λ (l : List ℕ). flat_map f l) (numbers_more n)
    ∙ (flat_map-append f (numbers n) ((n + 1) ∷ [])
    ∙ ap (λ (l : List A). flat_map f (numbers n) ++ l) (append-nil (f (n + 1))))

-- one row more
pub table_more : (n : ℕ) (ms : List Counted)
    → text_of_table (n + 1) ms ≡ text_of_table n ms ++ text_of_score (n + 1) (score_of (n + 1) ms)
table_more n ms = flat_more (λ (program : ℕ). text_of_score program (score_of program ms)) n
