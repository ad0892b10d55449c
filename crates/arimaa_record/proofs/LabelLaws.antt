-- The first byte of a label is a digit, and bytes are the label of one number and side.
use Rattle.std.proofs.Common.{◌≡◌, ℕ, ◌<◌, ◌^◌, List, [], ◌∷◌, ◌++◌, length, get_or, Some, sym, ◌∙◌, ap, arith, refl}
use Rattle.std.specs.Fmt.{decimal}
use Rattle.std.proofs.lemmas.Fmt.{decimal_is_IsNumeral, decimal_nonempty, first_decimal, decimal_injective}
use Rattle.std.proofs.lemmas.Str.Parse.{digit_at}
use Rattle.arimaa_record.specs.declared.label.Label.{Label}
use Rattle.arimaa_record.specs.Label.{side_of_letter, IsLabel}
use Rattle.arimaa_record.proofs.LabelForms.{snoc_parts}

first_of : (xs ys : List ℕ) → 0 < length xs → get_or (xs ++ ys) 0 0 ≡ get_or xs 0 0
first_of [] ys some = absurd (omega arith)
first_of (x ∷ xs) ys some = refl

-- a label's first byte is a digit, and not 0
pub label_first : (bytes : List ℕ) (label : Label) → IsLabel bytes label → (48 < get_or bytes 0 0) × (get_or bytes 0 0 < 58)
label_first bytes label h =
    let n : ℕ = label.number in
    let small : n < 2 ^ 64 = omega (arith, h.most) in
    let some : 0 < length (decimal n) = decimal_nonempty n small in
    let first : get_or bytes 0 0 ≡ get_or (decimal n) 0 0 = ap (λ xs. get_or xs 0 0) h.form ∙ first_of (decimal n) (h.letter ∷ []) some in
    let digit = digit_at (decimal n) 0 (decimal_is_IsNumeral n small).0.1 some in
    let above : 48 < get_or (decimal n) 0 0 = first_decimal n h.least small in
    (omega arith, omega arith)

-- bytes are one label
pub same_label : (bytes : List ℕ) (l m : Label) → IsLabel bytes l → IsLabel bytes m → l ≡ m
same_label bytes l m a b =
    let parts = snoc_parts (decimal l.number) (decimal m.number) a.letter b.letter (sym a.form ∙ b.form) in
    let numbers : l.number ≡ m.number = decimal_injective l.number m.number (omega (arith, a.most)) (omega (arith, b.most)) parts.0 in
    let sides : Some l.side ≡ Some m.side = sym a.side ∙ (ap side_of_letter parts.1 ∙ b.side) in
    let side : l.side ≡ m.side = cc in
    λ i. record { number = numbers i; side = side i }
