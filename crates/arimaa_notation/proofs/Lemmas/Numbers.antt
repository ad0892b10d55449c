-- A number is read exactly where the bytes are what is written for it.
use Rattle.std.proofs.Common.{◌≡◌, ℕ, ◌<◌, ◌^◌, List, length, get_or, None, Some, refl, Option, Bool, true, false, sym, ◌∙◌, ap, subst, arith, ⊎_elim}
use Rattle.std.specs.Prelude.{◌↔◌, ◌&&◌, nat_lt, Result, Ok, Err, if◌then◌else◌}
use Rattle.std.specs.Str.{bytes_eq}
use Rattle.std.specs.Fmt.{decimal}
use Rattle.std.specs.Str.{IsUtf8}
use Rattle.std.specs.Str.Parse.{AllDigits, digits_value, ParsesUnsigned}
use Rattle.std.proofs.lemmas.Bool.{cases_eq, and_from, and_parts}
use Rattle.std.proofs.lemmas.Bool.Decides.{Decides-ltb}
use Rattle.std.proofs.lemmas.Slice.Eq.{bytes_eq-Decides}
use Rattle.std.proofs.lemmas.Fmt.{decimal_is_IsNumeral, decimal_nonempty, first_decimal, decimal_digit, decimal-digits_value, digits_value-decimal, decimal_injective, parse-decimal, IsAscii-decimal}
use Rattle.std.proofs.lemmas.Str.{IsUtf8-from_ascii}
use Rattle.std.proofs.lemmas.Str.Parse.{IsNumeralModel, numerals_by_value, tells_digits, digit_at, parse_plain}
use Rattle.arimaa_notation.specs.Number.{HasPlainStart}
use Rattle.arimaa_notation.specs.Readers.{number_of_text}

own : IsNumeralModel (AllDigits 10) (digits_value 10)
own = numerals_by_value (AllDigits 10) tells_digits

-- what is written begins so
pub plain_decimal : (n : ℕ) → n < 2 ^ 64 → HasPlainStart (decimal n)
plain_decimal n small =
    let numeral = decimal_is_IsNumeral n small in
    let some : 0 < length (decimal n) = decimal_nonempty n small in
    let digit = digit_at (decimal n) 0 numeral.0.1 some in
    record {
      some = some;
      unsigned = omega arith;
      no_zero = λ zero. ⊎_elim
          (λ (e : n ≡ 0). subst (λ k. length (decimal k) ≡ 1) (sym e) (ap length (decimal_digit 0 (omega arith))))
          (λ more. absurd (let above : 48 < get_or (decimal n) 0 0 = first_decimal n (omega arith) small in omega arith))
          (cases_eq n 0);
    }

module _ (E : Type 0) (bs t : List ℕ) (same : t ≡ bs) (m : ℕ) where
  pub parsed : (n : ℕ) → HasPlainStart bs → ParsesUnsigned {E = E} 64 10 t (Ok n) → (Some n ≡ Some m) ↔ ((m < 2 ^ 64) × (bs ≡ decimal m))
  parsed n plain p =
      let h : ParsesUnsigned {E = E} 64 10 bs (Ok n) = subst (λ x. ParsesUnsigned {E = E} 64 10 x (Ok n)) same p in
      let q = parse_plain own {E = E} 64 bs (Ok n) h plain.unsigned in
      let written : decimal (digits_value 10 bs) ≡ bs = decimal-digits_value own bs q.0.0 q.0.1 plain.no_zero q.0.2 in
      let value : n ≡ digits_value 10 bs = q.1 in (
        λ e. let number : n ≡ m = cc in let is : digits_value 10 bs ≡ m = sym value ∙ number in (subst (λ x. x < 2 ^ 64) is q.0.2, sym written ∙ ap decimal is),
        λ w. let r : ◌≡◌ {A = Result ℕ E} (Ok n) (Ok m) = parse-decimal {E = E} 64 m bs (Ok n) w.0 w.0 w.1 h in let number : n ≡ m = cc in ap Some number,
      )

  pub unparsed : (e : E) → ParsesUnsigned {E = E} 64 10 t (Err e) → (None ≡ Some m) ↔ ((m < 2 ^ 64) × (bs ≡ decimal m))
  unparsed e p = (
    λ e. cc,
    λ w. let r : ◌≡◌ {A = Result ℕ E} (Err e) (Ok m) = parse-decimal {E = E} 64 m t (Err e) w.0 w.0 (same ∙ w.1) p in cc,
  )

-- where something keeps the bytes from being a number, none is read
pub unread : (bs : List ℕ) (m : ℕ) → ((m < 2 ^ 64) → bs ≡ decimal m → ⊥) → (None ≡ Some m) ↔ ((m < 2 ^ 64) × (bs ≡ decimal m))
unread bs m never = (λ e. cc, λ w. absurd (never w.0 w.1))

pub no_text : (bs : List ℕ) → (IsUtf8 bs → ⊥) → (m : ℕ) → (m < 2 ^ 64) → bs ≡ decimal m → ⊥
no_text bs never m small e = never (subst IsUtf8 (sym e) (IsUtf8-from_ascii (decimal m) (IsAscii-decimal m small)))

pub no_plain_start : (bs : List ℕ) → (HasPlainStart bs → ⊥) → (m : ℕ) → (m < 2 ^ 64) → bs ≡ decimal m → ⊥
no_plain_start bs never m small e = never (subst HasPlainStart (sym e) (plain_decimal m small))

-- the number that is read is the one whose decimal form the text is
pub number_read : (bs : List ℕ) (r : Option ℕ) → ((n : ℕ) → (r ≡ Some n) ↔ ((n < 2 ^ 64) × (bs ≡ decimal n))) → r ≡ number_of_text bs
unfolding number_of_text
number_read bs (Some n) reads =
    let w = (reads n).0 refl in
    let value : digits_value 10 bs ≡ n = ap (digits_value 10) w.1 ∙ digits_value-decimal own n w.0 in
    let small : nat_lt (digits_value 10 bs) (2 ^ 64) ≡ true = (Decides-ltb (digits_value 10 bs) (2 ^ 64)).1 (subst (λ k. k < 2 ^ 64) (sym value) w.0) in
    let same : bytes_eq (decimal (digits_value 10 bs)) bs ≡ true = (bytes_eq-Decides (decimal (digits_value 10 bs)) bs).1 (ap decimal value ∙ sym w.1) in
    rw (and_from _ _ small same) (ap Some (sym value))
number_read bs None reads = by_test (nat_lt (digits_value 10 bs) (2 ^ 64) && bytes_eq (decimal (digits_value 10 bs)) bs) refl
  where
    by_test : (b : Bool) → (nat_lt (digits_value 10 bs) (2 ^ 64) && bytes_eq (decimal (digits_value 10 bs)) bs) ≡ b → None ≡ (if b then Some (digits_value 10 bs) else None)
    by_test true is =
        let parts = and_parts _ _ is in
        let some : None ≡ Some (digits_value 10 bs) = (reads (digits_value 10 bs)).1 ((Decides-ltb (digits_value 10 bs) (2 ^ 64)).0 parts.0, sym ((bytes_eq-Decides (decimal (digits_value 10 bs)) bs).0 parts.1)) in
        some
    by_test false is = refl

-- the decimal form of a number is read as it
pub number_back : (n : ℕ) → n < 2 ^ 64 → number_of_text (decimal n) ≡ Some n
number_back n small = sym (number_read (decimal n) (Some n) (λ m. (λ same. by_same m same, λ w. ap Some (decimal_injective n m small w.0 w.1))))
  where
    by_same : (m : ℕ) → Some n ≡ Some m → (m < 2 ^ 64) × (decimal n ≡ decimal m)
    by_same m same = let e : n ≡ m = cc in (subst (λ k. k < 2 ^ 64) e small, ap decimal e)
