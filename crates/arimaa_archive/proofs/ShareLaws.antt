-- The records that are dealt to a worker.
use Rattle.std.proofs.Common.{◌≡◌, ℕ, ◌+◌, ◌*◌, ◌/◌, ◌%◌, ◌<◌, List, [], ◌∷◌, ◌++◌, length, get_or, sym, ◌∙◌, ap, subst, arith, ⊎_elim}
use Rattle.std.specs.Prelude.{Result, Ok, IfOk}
use Rattle.std.proofs.lemmas.Bool.{cases_lt}
use Rattle.std.proofs.lemmas.List.{get_or_append_left, get_or_push, get_or_default}
use Rattle.arimaa_archive.specs.declared.parts.Part.{Part}
use Rattle.arimaa_archive.specs.declared.record_judgement.Told.{Told}
use Rattle.arimaa_archive.specs.Shares.{IsShare}
use Rattle.arimaa_archive.specs.RecordJudgements.{IsToldOfPart}

-- what holds of a value, if there is one, holds of this one
pub ok_value : {A E : Type 0} (P : A → Type 0) (r : Result A E) (v : A) → r ≡ Ok v → IfOk r P → P v
ok_value {A} {E} P r v e holds = subst (λ (x : Result A E). IfOk x P) e holds

module _ (bytes : List ℕ) (parts : List Part) where
  -- what is told of the part at one place is told of that at an equal one
  moved : (i j : ℕ) (part : Part) (t u : Told) → i ≡ j → t ≡ u
      → IsToldOfPart bytes (get_or parts i part) t → IsToldOfPart bytes (get_or parts j part) u
  moved i j part t u places same told =
      subst (λ (k : ℕ). IsToldOfPart bytes (get_or parts k part) u) places
      (subst (λ (x : Told). IsToldOfPart bytes (get_or parts i part) x) same told)

  -- a worker's records so far, with one more
  pub one_more : (worker workers n place : ℕ) (all more : List Told) (t : Told) (p : Part)
      → more ≡ all ++ t ∷ [] → length all ≡ n → place ≡ worker + n * workers → place < length parts
      → IsToldOfPart bytes (get_or parts place p) t
      → ((k : ℕ) (part : Part) (d : Told) → k < n → IsToldOfPart bytes (get_or parts (worker + k * workers) part) (get_or all k d))
      → (k : ℕ) (part : Part) (d : Told) → k < n + 1 → IsToldOfPart bytes (get_or parts (worker + k * workers) part) (get_or more k d)
  one_more worker workers n place all more t p is size at within here before k part d less =
      ⊎_elim
      (λ (low : k < n).
      let same : get_or all k d ≡ get_or more k d = sym (ap (λ x. get_or x k d) is ∙ get_or_append_left all (t ∷ []) d k (omega arith)) in
      moved (worker + k * workers) (worker + k * workers) part (get_or all k d) (get_or more k d) (omega arith) same (before k part d low))
      (λ high.
      let last : n ≡ k = omega arith in
      let same : t ≡ get_or more k d = sym (ap (λ x. get_or x k d) is ∙ get_or_push all t d k (size ∙ last)) in
      let there : place ≡ worker + k * workers = at ∙ ap (λ j. worker + j * workers) last in
      moved place (worker + k * workers) part t (get_or more k d) there same
      (subst (λ (x : Part). IsToldOfPart bytes x t) (get_or_default parts place p part within) here))
      (cases_lt k n)

  -- a record stands in the share of its worker
  pub in_share : (worker workers place : ℕ) (share : List Told) → IsShare bytes parts worker workers share
      → 0 < workers → worker ≡ place % workers → place < length parts → place / workers < length share
  in_share worker workers place share is some whose within =
      let all : worker + place / workers * workers ≡ place = omega arith in
      is.whole (place / workers) (omega arith)

  pub told_in_share : (worker workers place : ℕ) (share : List Told) → IsShare bytes parts worker workers share
      → 0 < workers → worker ≡ place % workers → place < length parts
      → (part : Part) (d : Told) → IsToldOfPart bytes (get_or parts place part) (get_or share (place / workers) d)
  told_in_share worker workers place share is some whose within part d =
      let all : worker + place / workers * workers ≡ place = omega arith in
      subst (λ (k : ℕ). IsToldOfPart bytes (get_or parts k part) (get_or share (place / workers) d)) all
      (is.each (place / workers) part d (in_share worker workers place share is some whose within))
