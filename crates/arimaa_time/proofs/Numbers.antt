-- Numbers of one to six digits.
use Rattle.std.proofs.Common.{◌≡◌, ℕ, ◌+◌, ◌-◌, ◌*◌, ◌^◌, ◌<◌, ◌≤◌, true, ◌&&◌, not, eqb, leb, List, [], ◌∷◌, ◌++◌, length, get_or, take, refl, ap, ◌∙◌, arith}
use Rattle.std.specs.List.{list_all}
use Rattle.std.specs.Char.{is_ascii_digit, digit_value}
use Rattle.std.specs.Int.{IsInRange}
use Rattle.std.specs.Str.Parse.{AllDigits, digits_value, digits_value_after}
use Rattle.std.proofs.lemmas.Bool.{and_parts, leb-true}
use Rattle.std.proofs.lemmas.Bool.Decides.{nat_tests}
use Rattle.std.proofs.lemmas.List.{take_more}
use Rattle.std.proofs.lemmas.Str.Parse.{numerals_by_value, tells_digits, digits_value_short, digit_at}
use Rattle.arimaa_time.specs.Reading.{is_number}

-- one more digit at the end
pub digits_value_after-push : (n : ℕ) (ds : List ℕ) (d : ℕ) → digits_value_after 10 n (ds ++ d ∷ []) ≡ digits_value_after 10 n ds * 10 + digit_value d
digits_value_after-push n [] d = refl
digits_value_after-push n (c ∷ ds) d = digits_value_after-push (n * 10 + digit_value c) ds d

pub digit_below : (c : ℕ) → is_ascii_digit c ≡ true → digit_value c < 10
digit_below c h = grind (arith, nat_tests)

pub AllDigits-from_test : (text : List ℕ) → list_all is_ascii_digit text ≡ true → AllDigits 10 text
AllDigits-from_test [] h = tt
AllDigits-from_test (c ∷ cs) h =
    let both = and_parts (is_ascii_digit c) (list_all is_ascii_digit cs) h in
    (digit_below c both.0, AllDigits-from_test cs both.1)

pub digits_value_small : (text : List ℕ) → AllDigits 10 text → length text ≤ 6 → digits_value 10 text < 10 ^ 6
digits_value_small text digits short = digits_value_short (numerals_by_value (AllDigits 10) tells_digits) text 6 digits short

-- a digit's value is its place behind '0'
pub digit_value_is : (c : ℕ) → IsInRange 48 57 c → digit_value c ≡ c - 48
digit_value_is c h = grind (arith, nat_tests)

-- the digits so far, and one more
pub digits_value-more : (ds : List ℕ) (i : ℕ) → AllDigits 10 ds → i < length ds → digits_value 10 (take (i + 1) ds) ≡ digits_value 10 (take i ds) * 10 + (get_or ds i 0 - 48)
digits_value-more ds i digits within =
    rw (take_more ds i 0 within) (digits_value_after-push 0 (take i ds) (get_or ds i 0) ∙ ap (λ d. digits_value 10 (take i ds) * 10 + d) (digit_value_is (get_or ds i 0) (digit_at ds i digits within)))

-- what the test of a number means
pub is_number-parts : (text : List ℕ) → is_number text ≡ true → (0 < length text) × (length text ≤ 6) × AllDigits 10 text
unfolding is_number
is_number-parts text h =
    let front = and_parts (not (eqb (length text) 0) && leb (length text) 6) (list_all is_ascii_digit text) h in
    let sizes = and_parts (not (eqb (length text) 0)) (leb (length text) 6) front.0 in
    (grind (arith, nat_tests), leb-true _ _ sizes.1, AllDigits-from_test text front.1)
