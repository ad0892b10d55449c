-- Bits that change places between two words, and how three such swaps compose.
use Rattle.std.proofs.Common.{◌≡◌, ◌≢◌, ℕ, min, ◌+◌, ◌-◌, ◌*◌, ◌/◌, ◌%◌, ◌^◌, ◌<◌, ◌≤◌, ◌==◌, ◌&&◌, Bool, true, false, List, [], ◌∷◌, get_or, refl, sym, ◌∙◌, ap, subst, arith, bit_and, bit_xor, ⊎_elim, eqb-true}
use Rattle.std.specs.Prelude.{nat_lt, if◌then◌else◌}
use Rattle.std.specs.Int.{bit_at}
use Rattle.std.proofs.lemmas.Nat.{and_le_r, xor_lt}
use Rattle.std.proofs.lemmas.Nat.Bits.{bit_at_and, bit_at_xor, bit_at_above, bit_at-lt}
use Rattle.std.proofs.lemmas.Bool.{cases_eq, cases_lt, and_parts}
use Rattle.std.proofs.lemmas.Bool.Decides.{nat_tests}
use Rattle.arimaa_board.specs.Transpose.{bit_in, low_source, high_source, swap_source, with_bits_exchanged}
use Rattle.arimaa_board.proofs.Lemmas.Beside.{bit_at-up, bit_at-up_low, bit_at-down, upto, upto_all}

-- a bit, and another one where the mask has it
mixed : (x y m : ℕ) → x < 2 → y < 2 → m < 2 → (x + min ((x + y) % 2) m) % 2 ≡ if m == 1 then y else x
mixed x y m hx hy hm =
    ⊎_elim (λ (e : m ≡ 1). rw e (omega (arith, hx, hy)))
    (λ (other : m ≢ 1). let e : m ≡ 0 = omega arith in rw e (omega (arith, hx, hy)))
    (cases_eq m 1)

mixed_back : (x y m : ℕ) → x < 2 → y < 2 → m < 2 → (y + min ((x + y) % 2) m) % 2 ≡ if m == 1 then x else y
mixed_back x y m hx hy hm =
    ⊎_elim (λ (e : m ≡ 1). rw e (omega (arith, hx, hy)))
    (λ (other : m ≢ 1). let e : m ≡ 0 = omega arith in rw e (omega (arith, hx, hy)))
    (cases_eq m 1)

module _ (low high shift mask : ℕ) where
  abbrev turned : ℕ
  turned = bit_and (bit_xor (low / 2 ^ shift) high) mask

  turned_bit : (i : ℕ) → bit_at turned i ≡ min ((bit_at low (i + shift) + bit_at high i) % 2) (bit_at mask i)
  turned_bit i = rw (bit_at_and, bit_at_xor, bit_at-down) refl

  moved_bit : (i : ℕ) → i < 64 → bit_at (turned * 2 ^ shift % 2 ^ 64) i ≡ min ((bit_at low i + bit_at high (i - shift)) % 2) (bit_at (mask * 2 ^ shift % 2 ^ 64) i)
  moved_bit i small =
      ⊎_elim
      (λ (below : i < shift). rw (bit_at-up_low turned shift i small below, bit_at-up_low mask shift i small below) (omega arith))
      (λ from.
      let back : i - shift + shift ≡ i = omega arith in
      rw (bit_at-up turned shift i small from, bit_at-up mask shift i small from, turned_bit (i - shift), back) refl)
      (cases_lt i shift)

  pub low_bit : (i : ℕ) → i < 64 → bit_at (bit_xor low (turned * 2 ^ shift % 2 ^ 64)) i ≡ if bit_at (mask * 2 ^ shift % 2 ^ 64) i == 1 then bit_at high (i - shift) else bit_at low i
  low_bit i small =
      rw (bit_at_xor, moved_bit i small)
      (mixed (bit_at low i) (bit_at high (i - shift)) (bit_at (mask * 2 ^ shift % 2 ^ 64) i) (bit_at-lt _ _) (bit_at-lt _ _) (bit_at-lt _ _))

  pub high_bit : (i : ℕ) → bit_at (bit_xor high turned) i ≡ if bit_at mask i == 1 then bit_at low (i + shift) else bit_at high i
  high_bit i =
      rw (bit_at_xor, turned_bit i)
      (mixed_back (bit_at low (i + shift)) (bit_at high i) (bit_at mask i) (bit_at-lt _ _) (bit_at-lt _ _) (bit_at-lt _ _))

-- a bit of a word, counted through
pub place : (words : List ℕ) (k n : ℕ) → n < 64 → bit_in words (64 * k + n) ≡ bit_at (get_or words k 0) n
place words k n small =
    let word : (64 * k + n) / 64 ≡ k = omega arith in
    let inner : (64 * k + n) % 64 ≡ n = omega arith in
    rw (word, inner) refl

place_first : (words : List ℕ) (n : ℕ) → n < 64 → bit_in words n ≡ bit_at (get_or words 0 0) n
place_first words n small =
    let word : n / 64 ≡ 0 = omega arith in
    let inner : n % 64 ≡ n = omega arith in
    rw (word, inner) refl

-- a choice by a bit, under a function
chosen : (b x y : ℕ) (f : ℕ → ℕ) (p q : ℕ) → b < 2 → (b ≡ 1 → x ≡ f p) → (b ≡ 0 → y ≡ f q) → (if b == 1 then x else y) ≡ f (if b == 1 then p else q)
chosen b x y f p q bit one none =
    ⊎_elim (λ (e : b ≡ 1). subst (λ v. (if v == 1 then x else y) ≡ f (if v == 1 then p else q)) (sym e) (one e))
    (λ other. let e : b ≡ 0 = omega arith in subst (λ v. (if v == 1 then x else y) ≡ f (if v == 1 then p else q)) (sym e) (none e))
    (cases_eq b 1)

-- the bits of two words after a swap
module _ (pair : List ℕ) (shift mask : ℕ) (inside : shift < 64) (low_mask : mask < 2 ^ (64 - shift)) where
  abbrev low : ℕ
  low = get_or pair 0 0

  abbrev high : ℕ
  high = get_or pair 1 0

  abbrev new_low : ℕ
  new_low = bit_xor low (turned low high shift mask * 2 ^ shift % 2 ^ 64)

  abbrev new_high : ℕ
  new_high = bit_xor high (turned low high shift mask)

  in_low : (n : ℕ) → n < 64 → bit_in (new_low ∷ new_high ∷ []) n ≡ bit_in pair (low_source shift mask n)
  in_low n small =
      let moved : n - shift < 64 = omega arith in
      place_first (new_low ∷ new_high ∷ []) n small ∙ (low_bit low high shift mask n small ∙
      chosen (bit_at (mask * 2 ^ shift % 2 ^ 64) n) (bit_at high (n - shift)) (bit_at low n) (bit_in pair) (64 + (n - shift)) n (bit_at-lt _ _)
      (λ _. sym (place pair 1 (n - shift) moved))
      (λ _. sym (place_first pair n small)))

  in_high : (n : ℕ) → n < 64 → bit_in (new_low ∷ new_high ∷ []) (64 + n) ≡ bit_in pair (high_source shift mask n)
  in_high n small =
      place (new_low ∷ new_high ∷ []) 1 n small ∙ (high_bit low high shift mask n ∙
      chosen (bit_at mask n) (bit_at low (n + shift)) (bit_at high n) (bit_in pair) (n + shift) (64 + n) (bit_at-lt _ _)
      (λ one. ⊎_elim (λ (fits : n + shift < 64). sym (place_first pair (n + shift) fits))
      (λ beyond. let none : bit_at mask n ≡ 0 = bit_at_above mask (64 - shift) n low_mask (omega arith) in absurd (omega (arith, one, none)))
      (cases_lt (n + shift) 64))
      (λ _. sym (place pair 1 n small)))

  pub swap_bits : (n : ℕ) → n < 128 → bit_in (new_low ∷ new_high ∷ []) n ≡ bit_in pair (swap_source shift mask n)
  swap_bits n small =
      ⊎_elim
      (λ (first : n < 64). let test : nat_lt n 64 ≡ true = grind (arith, nat_tests) in rw test (in_low n first))
      (λ second.
      let test : nat_lt n 64 ≡ false = grind (arith, nat_tests) in
      let whole : 64 + (n - 64) ≡ n = omega arith in
      rw test (subst (λ m. bit_in (new_low ∷ new_high ∷ []) m ≡ bit_in pair (high_source shift mask (n - 64))) whole (in_high (n - 64) (omega arith))))
      (cases_lt n 64)

told_less : (a b : ℕ) → nat_lt a b ≡ true → a < b
told_less a b told = grind (arith, nat_tests)

-- both words stay in their range
pub swap_small : (low high shift mask : ℕ) → low < 2 ^ 64 → high < 2 ^ 64 → mask < 2 ^ 64
    → (k : ℕ) → k < 2
    → get_or (bit_xor low (turned low high shift mask * 2 ^ shift % 2 ^ 64) ∷ bit_xor high (turned low high shift mask) ∷ []) k 0 < 2 ^ 64
swap_small low high shift mask first second fits k small =
    let moved : turned low high shift mask * 2 ^ shift % 2 ^ 64 < 2 ^ 64 = omega arith in
    let most : turned low high shift mask ≤ mask = and_le_r (bit_xor (low / 2 ^ shift) high) mask in
    let kept : turned low high shift mask < 2 ^ 64 = omega (arith, most, fits) in
    ⊎_elim (λ (e : k ≡ 0). rw e (xor_lt 64 low (turned low high shift mask * 2 ^ shift % 2 ^ 64) first moved))
    (λ other. let e : k ≡ 1 = omega arith in rw e (xor_lt 64 high (turned low high shift mask) second kept))
    (cases_eq k 0)

-- three levels in a row
abbrev is_chain : (ℕ → ℕ) → (ℕ → ℕ) → (ℕ → ℕ) → (ℕ → ℕ) → ℕ → Bool
is_chain first second third target n =
    nat_lt (third n) 128 && (nat_lt (second (third n)) 128 && first (second (third n)) == target n)

pub chained : (a b c d first second third target : ℕ → ℕ)
    → ((n : ℕ) → n < 128 → b n ≡ a (first n)) → ((n : ℕ) → n < 128 → c n ≡ b (second n)) → ((n : ℕ) → n < 128 → d n ≡ c (third n))
    → upto (is_chain first second third target) 128 ≡ true
    → (n : ℕ) → n < 128 → d n ≡ a (target n)
chained a b c d first second third target h1 h2 h3 all n small =
    let parts = and_parts (nat_lt (third n) 128) (nat_lt (second (third n)) 128 && first (second (third n)) == target n) (upto_all (is_chain first second third target) 128 all n small) in
    let more = and_parts (nat_lt (second (third n)) 128) (first (second (third n)) == target n) parts.1 in
    let one : third n < 128 = told_less (third n) 128 parts.0 in
    let two : second (third n) < 128 = told_less (second (third n)) 128 more.0 in
    h3 n small ∙ (h2 (third n) one ∙ (h1 (second (third n)) two ∙ ap a (eqb-true _ _ more.1)))

-- where a bit comes from by the levels of neighbours, and by those of words two apart
abbrev pub near_source : ℕ → ℕ
near_source n = with_bits_exchanged 6 0 (with_bits_exchanged 6 2 (with_bits_exchanged 6 4 n))

abbrev pub far_source : ℕ → ℕ
far_source n = with_bits_exchanged 6 1 (with_bits_exchanged 6 3 (with_bits_exchanged 6 5 n))

pub near_all : upto (is_chain (swap_source 1 6148914691236517205) (swap_source 4 1085102592571150095) (swap_source 16 281470681808895) near_source) 128 ≡ true
near_all = refl

pub far_all : upto (is_chain (swap_source 2 3689348814741910323) (swap_source 8 71777214294589695) (swap_source 32 4294967295) far_source) 128 ≡ true
far_all = refl

near_inside : (n : ℕ) → n < 128 → near_source n < 128
near_inside n small =
    told_less (near_source n) 128 (upto_all (λ m. nat_lt (near_source m) 128) 128 refl n small)

-- the four planes, two by two
module _ (planes : List ℕ) where
  abbrev pair_at : ℕ → List ℕ
  pair_at k = get_or planes k 0 ∷ get_or planes (k + 1) 0 ∷ []

  pair_bit : (k n m : ℕ) → m ≡ 64 * k + n → n < 128 → bit_in (pair_at k) n ≡ bit_in planes m
  pair_bit k n m e small =
      rw e
      (⊎_elim
      (λ (first : n < 64). place_first (pair_at k) n first ∙ sym (place planes k n first))
      (λ second.
      let inside : n - 64 < 64 = omega arith in
      let here : 64 * 1 + (n - 64) ≡ n = omega arith in
      let there : 64 * (k + 1) + (n - 64) ≡ 64 * k + n = omega arith in
      subst (λ v. bit_in (pair_at k) v ≡ bit_in planes (64 * k + n)) here
      (place (pair_at k) 1 (n - 64) inside ∙ subst (λ v. bit_at (get_or planes (k + 1) 0) (n - 64) ≡ bit_in planes v) there (sym (place planes (k + 1) (n - 64) inside))))
      (cases_lt n 64))

  module _ (front back : List ℕ)
      (h_front : (n : ℕ) → n < 128 → bit_in front n ≡ bit_in (pair_at 0) (near_source n))
      (h_back : (n : ℕ) → n < 128 → bit_in back n ≡ bit_in (pair_at 2) (near_source n)) where
    abbrev crossed : ℕ → List ℕ
    crossed k = get_or front k 0 ∷ get_or back k 0 ∷ []

    -- the plane's bit that comes to place n of a pair of the far levels
    abbrev cross_source : ℕ → ℕ → ℕ
    cross_source k n = if nat_lt n 64 then near_source (64 * k + n) else 128 + near_source (64 * k + (n - 64))

    cross_bit : (k n : ℕ) → k < 2 → n < 128 → bit_in (crossed k) n ≡ bit_in planes (cross_source k n)
    cross_bit k n pair small =
        ⊎_elim
        (λ (first : n < 64).
        let test : nat_lt n 64 ≡ true = grind (arith, nat_tests) in
        let inside : 64 * k + n < 128 = omega arith in
        rw test (place_first (crossed k) n first ∙ (sym (place front k n first) ∙ (h_front (64 * k + n) inside ∙ pair_bit 0 (near_source (64 * k + n)) (near_source (64 * k + n)) (omega arith) (near_inside (64 * k + n) inside)))))
        (λ second.
        let test : nat_lt n 64 ≡ false = grind (arith, nat_tests) in
        let there : n - 64 < 64 = omega arith in
        let whole : 64 * 1 + (n - 64) ≡ n = omega arith in
        let inside : 64 * k + (n - 64) < 128 = omega arith in
        rw test (subst (λ v. bit_in (crossed k) v ≡ bit_in planes (128 + near_source (64 * k + (n - 64)))) whole
        (place (crossed k) 1 (n - 64) there ∙ (sym (place back k (n - 64) there) ∙ (h_back (64 * k + (n - 64)) inside ∙ pair_bit 2 (near_source (64 * k + (n - 64))) (128 + near_source (64 * k + (n - 64))) (omega arith) (near_inside (64 * k + (n - 64)) inside))))))
        (cases_lt n 64)

    abbrev is_whole : ℕ → ℕ → ℕ → Bool
    is_whole k0 k1 i = nat_lt (far_source (64 * k1 + i)) 128 && cross_source k0 (far_source (64 * k1 + i)) == 64 * (i % 4) + (16 * (2 * k1 + k0) + i / 4)

    module _ (k0 k1 : ℕ) (low : k0 < 2) (high : k1 < 2) (last : List ℕ) (h_last : (n : ℕ) → n < 128 → bit_in last n ≡ bit_in (crossed k0) (far_source n)) (all : upto (is_whole k0 k1) 64 ≡ true) where
      pub word_bit : (i : ℕ) → i < 64 → bit_at (get_or last k1 0) i ≡ bit_at (get_or planes (i % 4) 0) (16 * (2 * k1 + k0) + i / 4)
      word_bit i small =
          let parts = and_parts (nat_lt (far_source (64 * k1 + i)) 128) (cross_source k0 (far_source (64 * k1 + i)) == 64 * (i % 4) + (16 * (2 * k1 + k0) + i / 4)) (upto_all (is_whole k0 k1) 64 all i small) in
          let inside : 64 * k1 + i < 128 = omega arith in
          let there : far_source (64 * k1 + i) < 128 = told_less (far_source (64 * k1 + i)) 128 parts.0 in
          let square : 16 * (2 * k1 + k0) + i / 4 < 64 = omega arith in
          sym (place last k1 i small) ∙ (h_last (64 * k1 + i) inside ∙ (cross_bit k0 (far_source (64 * k1 + i)) low there ∙
          (ap (bit_in planes) (eqb-true _ _ parts.1) ∙ place planes (i % 4) (16 * (2 * k1 + k0) + i / 4) square)))
