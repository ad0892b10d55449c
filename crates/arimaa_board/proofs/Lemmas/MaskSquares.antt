-- The first square of a mask, and a mask without a square.
use Rattle.std.proofs.Common.{◌≡◌, ◌≢◌, ℕ, ◌-◌, ◌*◌, ◌%◌, ◌^◌, ◌<◌, ◌≤◌, ◌==◌, Bool, true, false, w64, Some, None, bit_and, refl, sym, ◌∙◌, ap, arith, ⊎_elim, ne_eqb, eq-eqb}
use Rattle.std.specs.Int.{bit_at, trailing_zeros}
use Rattle.std.proofs.lemmas.Nat.{and_le_l}
use Rattle.std.proofs.lemmas.Nat.Bits.{bit_at-zero, bit_at_above, bit_at-trailing_zeros}
use Rattle.std.proofs.lemmas.Bool.{cases_eq, cases_lt}
use Rattle.arimaa_board.specs.Masks.{bit_of, IsMaskOf, is_in, first_in}
use Rattle.arimaa_board.proofs.Lemmas.Beside.{bit_at-up, bit_at-up_low}
use Rattle.arimaa_board.proofs.Lemmas.Finds.{find-first, find-no_number}

pub none_first : (mask : ℕ) → mask ≡ 0 → first_in mask ≡ None
unfolding first_in
none_first mask e = find-no_number (is_in mask) 64 0 (λ j _ less. rw (e, bit_at-zero j) refl)

pub some_first : (mask n : ℕ) → n < 64 → bit_at mask n ≡ 1 → ((i : ℕ) → i < n → bit_at mask i ≡ 0) → first_in mask ≡ Some n
unfolding first_in
some_first mask n small here before =
    find-first (is_in mask) 64 0 n (omega arith) small (rw here refl) (λ j _ less. rw (before j less) refl)

-- the mask of one square, as the code computes it
pub one_square : (k : ℕ) → k < 64 → IsMaskOf (λ n. n == k) (1 * 2 ^ k % 2 ^ 64)
one_square k inside n small =
    ⊎_elim
    (λ (e : n ≡ k).
    let start : n - k ≡ 0 = omega arith in
    let same : (n == k) ≡ true = eq-eqb n k e in
    let from : k ≤ n = omega arith in
    rw same (bit_at-up 1 k n small from ∙ ap (bit_at 1) start))
    (λ apart.
    let other : (n == k) ≡ false = ne_eqb n k apart in
    rw other
    (⊎_elim (λ (low : n < k). bit_at-up_low 1 k n small low)
    (λ from. bit_at-up 1 k n small from ∙ bit_at_above 1 1 (n - k) (omega arith) (omega arith))
    (cases_lt n k)))
    (cases_eq n k)

zero≢one : ◌≡◌ {A = ℕ} 0 1 → ⊥
zero≢one e = omega arith

-- a test whose bit is 0 is false
pub zero_false : (x : Bool) → bit_of x ≡ 0 → x ≡ false
zero_false true e = absurd (omega arith)
zero_false false e = refl

one_true : (x : Bool) → bit_of x ≡ 1 → x ≡ true
one_true true e = refl
one_true false e = absurd (omega arith)

-- a mask that loses a square gets less
pub fewer_less : (mask rest n : ℕ) → bit_at mask n ≡ 1 → bit_at (bit_and mask rest) n ≡ 0 → bit_and mask rest < mask
fewer_less mask rest n one gone =
    let most : bit_and mask rest ≤ mask = and_le_l mask rest in
    let apart : bit_and mask rest ≢ mask = λ e. zero≢one (sym gone ∙ (ap (λ x. bit_at x n) e ∙ one)) in
    omega arith

-- a mask without squares is that of a test that none passes
pub none_in : (test : ℕ → Bool) (mask : ℕ) → IsMaskOf test mask → mask ≡ 0 → (n : ℕ) → n < 64 → test n ≡ false
none_in test mask is none n small = zero_false (test n) (sym (is n small) ∙ (ap (λ m. bit_at m n) none ∙ bit_at-zero n))

-- any other is that of a test that some square passes
pub some_in : (test : ℕ → Bool) (mask : ℕ) → mask < 2 ^ 64 → IsMaskOf test mask → mask ≢ 0 → (n : ℕ) × (n < 64) × (test n ≡ true)
some_in test mask fits is some =
    let lowest = bit_at-trailing_zeros w64 mask (omega arith) fits in
    let n = trailing_zeros w64 mask in
    (n, lowest.0, one_true (test n) (sym (is n lowest.0) ∙ lowest.1))
