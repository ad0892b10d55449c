-- A mask without its first square.
use Rattle.std.proofs.Common.{◌≡◌, ◌≢◌, Bool, true, false, ℕ, zero, suc, ◌-◌, ◌/◌, ◌%◌, ◌<◌, ◌==◌, ◌&&◌, min, ◌∙◌, ap, sym, refl, arith, bit_and, ⊎_elim, ne_eqb, eq-eqb}
use Rattle.std.specs.Prelude.{not}
use Rattle.std.specs.Int.{bit_at}
use Rattle.std.proofs.lemmas.Bool.{cases_eq}
use Rattle.std.proofs.Math.Nat.{zero-min}
use Rattle.std.proofs.lemmas.Nat.Bits.{bit_at_and, bit_at_lowest, bit_at-suc}
use Rattle.arimaa_board.specs.Masks.{IsMaskOf, is_in, bit_of}
use Rattle.arimaa_board.proofs.Lemmas.MaskLaws.{own_mask}

-- less 1, a number has a 0 in place of its lowest 1
gone : (t m : ℕ) → bit_at m t ≡ 1 → ((i : ℕ) → i < t → bit_at m i ≡ 0) → bit_at (m - 1) t ≡ 0
gone zero m one below = let odd : m % 2 ≡ 1 = sym (bit_at_lowest m) ∙ one in bit_at_lowest (m - 1) ∙ omega arith
gone (suc t) m one below =
    let even : m % 2 ≡ 0 = sym (bit_at_lowest m) ∙ below 0 (omega arith) in
    let half : (m - 1) / 2 ≡ m / 2 - 1 = omega arith in
    bit_at-suc (m - 1) t ∙ (ap (λ x. bit_at x t) half ∙ gone t (m / 2) (sym (bit_at-suc m t) ∙ one) (λ i less. sym (bit_at-suc m i) ∙ below (suc i) (omega arith)))

min_same : (n : ℕ) → min n n ≡ n
min_same n = omega arith

-- beside that, it has each other 1 that the number has
kept : (t m i : ℕ) → bit_at m t ≡ 1 → ((j : ℕ) → j < t → bit_at m j ≡ 0) → i ≢ t → min (bit_at m i) (bit_at (m - 1) i) ≡ bit_at m i
kept zero m zero one below apart = absurd (apart refl)
kept zero m (suc i) one below apart =
    let odd : m % 2 ≡ 1 = sym (bit_at_lowest m) ∙ one in
    let half : (m - 1) / 2 ≡ m / 2 = omega arith in
    let same : bit_at (m - 1) (suc i) ≡ bit_at m (suc i) = bit_at-suc (m - 1) i ∙ (ap (λ x. bit_at x i) half ∙ sym (bit_at-suc m i)) in
    ap (min (bit_at m (suc i))) same ∙ min_same (bit_at m (suc i))
kept (suc t) m zero one below apart = rw (below 0 (omega arith)) (zero-min (bit_at (m - 1) 0))
kept (suc t) m (suc i) one below apart =
    let even : m % 2 ≡ 0 = sym (bit_at_lowest m) ∙ below 0 (omega arith) in
    let half : (m - 1) / 2 ≡ m / 2 - 1 = omega arith in
    let less : bit_at (m - 1) (suc i) ≡ bit_at (m / 2 - 1) i = bit_at-suc (m - 1) i ∙ ap (λ x. bit_at x i) half in
    (λ k. min (bit_at-suc m i k) (less k))
    ∙ (kept t (m / 2) i (sym (bit_at-suc m t) ∙ one) (λ j below_j. sym (bit_at-suc m j) ∙ below (suc j) (omega arith)) (λ e. apart (ap suc e)) ∙ sym (bit_at-suc m i))

-- a mask and the number before it have the squares of the mask but the first
pub first_gone : (mask t : ℕ) → bit_at mask t ≡ 1 → ((i : ℕ) → i < t → bit_at mask i ≡ 0) → IsMaskOf (λ n. is_in mask n && not (n == t)) (bit_and mask (mask - 1))
first_gone mask t one below n small = bit_at_and mask (mask - 1) n ∙ ⊎_elim
    (λ (same : n ≡ t). rw (same, one, gone t mask one below, eq-eqb t t refl) refl)
    (λ apart. kept t mask n one below apart ∙ (own_mask mask n small ∙ rw (ne_eqb n t apart) (ap bit_of (still (is_in mask n)))))
    (cases_eq n t)
  where
    still : (x : Bool) → x ≡ (x && not false)
    still true = refl
    still false = refl
