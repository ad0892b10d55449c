-- Which matches are dealt to a worker, one match after another.
use Rattle.std.proofs.Common.{◌≡◌, ℕ, ◌+◌, ◌%◌, Bool, true, false, cond, eqb, List, [], ◌∷◌, ◌++◌, length, sym, ◌∙◌, ap, arith}
use Rattle.std.proofs.lemmas.Bool.{eq-eqb, ne_eqb}
use Rattle.arimaa_meet.specs.Shares.{dealt_from}

-- a last one is dealt to the worker of its number
pub dealt_last : {A : Type 0} (number at worker workers : ℕ) (ms : List A) (m : A)
    → at ≡ number + length ms → at % workers ≡ worker
    → dealt_from number worker workers (ms ++ m ∷ []) ≡ dealt_from number worker workers ms ++ m ∷ []
dealt_last {A} number at worker workers [] m place own =
    let same : at ≡ number = omega arith in
    let test : eqb (number % workers) worker ≡ true = eq-eqb (number % workers) worker (ap (λ (n : ℕ). n % workers) (sym same) ∙ own) in
    ap (λ (b : Bool). cond b (m ∷ []) []) test
dealt_last {A} number at worker workers (x ∷ xs) m place own =
    let rest = dealt_last (number + 1) at worker workers xs m (omega arith) own in
    elim (eqb (number % workers) worker) as
    (λ (b : Bool). cond b (x ∷ dealt_from (number + 1) worker workers (xs ++ m ∷ [])) (dealt_from (number + 1) worker workers (xs ++ m ∷ []))
    ≡ cond b (x ∷ dealt_from (number + 1) worker workers xs) (dealt_from (number + 1) worker workers xs) ++ m ∷ [])
    [ true ↦ ap (λ (l : List A). x ∷ l) rest | false ↦ rest ]

-- and to no other
pub dealt_other : {A : Type 0} (number at worker workers : ℕ) (ms : List A) (m : A)
    → at ≡ number + length ms → (at % workers ≡ worker → ⊥)
    → dealt_from number worker workers (ms ++ m ∷ []) ≡ dealt_from number worker workers ms
dealt_other {A} number at worker workers [] m place other =
    let same : at ≡ number = omega arith in
    let test : eqb (number % workers) worker ≡ false = ne_eqb (number % workers) worker (λ (e : number % workers ≡ worker). other (ap (λ (n : ℕ). n % workers) same ∙ e)) in
    ap (λ (b : Bool). cond b (m ∷ []) []) test
dealt_other {A} number at worker workers (x ∷ xs) m place other =
    let rest = dealt_other (number + 1) at worker workers xs m (omega arith) other in
    elim (eqb (number % workers) worker) as
    (λ (b : Bool). cond b (x ∷ dealt_from (number + 1) worker workers (xs ++ m ∷ [])) (dealt_from (number + 1) worker workers (xs ++ m ∷ []))
    ≡ cond b (x ∷ dealt_from (number + 1) worker workers xs) (dealt_from (number + 1) worker workers xs))
    [ true ↦ ap (λ (l : List A). x ∷ l) rest | false ↦ rest ]

-- the first one, where it is dealt to a worker
pub dealt_head : {A : Type 0} (number worker workers : ℕ) (x : A) (xs : List A) → number % workers ≡ worker
    → dealt_from number worker workers (x ∷ xs) ≡ x ∷ dealt_from (number + 1) worker workers xs
dealt_head {A} number worker workers x xs own =
    ap (λ (b : Bool). cond b (x ∷ dealt_from (number + 1) worker workers xs) (dealt_from (number + 1) worker workers xs))
    (eq-eqb (number % workers) worker own)

-- and where it is not
pub dealt_skip : {A : Type 0} (number worker workers : ℕ) (x : A) (xs : List A) → (number % workers ≡ worker → ⊥)
    → dealt_from number worker workers (x ∷ xs) ≡ dealt_from (number + 1) worker workers xs
dealt_skip {A} number worker workers x xs other =
    ap (λ (b : Bool). cond b (x ∷ dealt_from (number + 1) worker workers xs) (dealt_from (number + 1) worker workers xs))
    (ne_eqb (number % workers) worker other)
