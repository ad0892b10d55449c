-- A text has at most one first bad field.
use Rattle.std.proofs.Common.{◌≡◌, ◌<◌, ◌≤◌, ℕ, List, Option, None, Some, ⊎_elim, arith}
use Rattle.std.specs.Prelude.{IsSomeAnd}
use Rattle.std.proofs.lemmas.Bool.{cases_lt}
use Rattle.arimaa_time.specs.Fields.{IsFirstBad, IsGood, field}

both_ways : (k : ℕ) (o : Option (List ℕ)) → IsSomeAnd o (λ text. ¬ (IsGood k text)) → IsSomeAnd o (λ text. IsGood k text) → ⊥
both_ways k None wrong good = wrong
both_ways k (Some t) wrong good = wrong good

-- there is one first bad field
pub one_bad : (texts : List (List ℕ)) (j k : ℕ) → IsFirstBad texts j → IsFirstBad texts k → j ≡ k
one_bad texts j k p q =
    ⊎_elim
    (λ (before : j < k). absurd (both_ways j (field texts j) p.bad (q.earlier j p.counted before)))
    (λ (after : k ≤ j). ⊎_elim
    (λ (later : k < j). absurd (both_ways k (field texts k) q.bad (p.earlier k q.counted later)))
    (λ (same : j ≤ k). omega arith)
    (cases_lt k j))
    (cases_lt j k)
