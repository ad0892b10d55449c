-- Whether positions with the defender to move are safe.
use Rattle.std.proofs.Common.{◌≡◌, ℕ, zero, suc, ◌+◌, ◌<◌, ◌≤◌, List, [], ◌∷◌, length, drop, Bool, true, false, ◌&&◌, refl, sym, ◌∙◌, ap, arith}
use Rattle.std.specs.Prelude.{◌↔◌, IsTrue, not}
use Rattle.std.specs.List.{list_all}
use Rattle.std.proofs.lemmas.List.{drop_all}
use Rattle.arimaa_board.specs.declared.position.Position.{Position}
use Rattle.arimaa_model.specs.Wins.{is_nil}
use Rattle.arimaa_refute.specs.Escapes.{can_wait}

-- ---- no turn is left

pub no-wait : (k : ℕ) (qs : List Position) → 0 < k → false ≡ can_wait k qs
no-wait zero qs some = absurd (omega arith)
no-wait (suc k) qs some = refl

some-is : (v : Bool) (qs : List Position) → IsTrue v ↔ (0 < length qs) → v ≡ not (is_nil qs)
some-is true [] both = let wrong : 0 < 0 = both.0 refl in absurd (omega arith)
some-is false [] both = refl
some-is true (q ∷ qs) both = refl
some-is false (q ∷ qs) both = both.1 (omega arith)

pub wait-now : (k : ℕ) (qs : List Position) (v : Bool) → k ≤ 0 → IsTrue v ↔ (0 < length qs) → v ≡ can_wait k qs
wait-now zero qs v none both = some-is v qs both
wait-now (suc k) qs v none both = absurd (omega arith)

-- ---- a look through a list

-- those from k on pass just where all do
pub all-more : (t : Position → Bool) (qs : List Position) (k : ℕ) (q : Position) → drop k qs ≡ q ∷ drop (k + 1) qs → t q ≡ true → list_all t (drop k qs) ≡ list_all t qs → list_all t (drop (k + 1) qs) ≡ list_all t qs
all-more t qs k q next passes h = sym (ap (list_all t) next ∙ ap (λ v. v && list_all t (drop (k + 1) qs)) passes) ∙ h

pub all-stop : (t : Position → Bool) (qs : List Position) (k : ℕ) (q : Position) → drop k qs ≡ q ∷ drop (k + 1) qs → t q ≡ false → list_all t (drop k qs) ≡ list_all t qs → false ≡ list_all t qs
all-stop t qs k q next fails h = sym (ap (list_all t) next ∙ ap (λ v. v && list_all t (drop (k + 1) qs)) fails) ∙ h

pub all-end : (t : Position → Bool) (qs : List Position) (k : ℕ) → length qs ≤ k → list_all t (drop k qs) ≡ list_all t qs → true ≡ list_all t qs
all-end t qs k past h = sym (ap (list_all t) (drop_all k qs past)) ∙ h
