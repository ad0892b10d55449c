-- A label from its parts.
use Rattle.std.proofs.Common.{◌≡◌, ◌≤◌, ℕ, suc, List, [], ◌∷◌, ◌++◌, length, Some, Option, sym, ◌∙◌, ap, subst, arith, refl, length-append}
use Rattle.std.specs.Prelude.{◌↔◌}
use Rattle.std.specs.Fmt.{decimal}
use Rattle.arimaa_board.specs.declared.piece.Color.{Color}
use Rattle.arimaa_record.specs.declared.label.Label.{Label}
use Rattle.arimaa_record.specs.Label.{side_of_letter, IsLabel}

-- lists that end with one more are equal only where their parts are
pub snoc_parts : (xs ys : List ℕ) (x y : ℕ) → xs ++ x ∷ [] ≡ ys ++ y ∷ [] → (xs ≡ ys) × (x ≡ y)
snoc_parts [] [] x y e = (refl, cc)
snoc_parts [] (b ∷ []) x y e = cc
snoc_parts [] (b ∷ c ∷ ys) x y e = cc
snoc_parts (a ∷ xs) [] x y e = let l : suc (length (xs ++ x ∷ [])) ≡ 1 = ap length e in absurd (omega (arith, length-append xs (x ∷ [])))
snoc_parts (a ∷ xs) (b ∷ ys) x y e =
    let rest : xs ++ x ∷ [] ≡ ys ++ y ∷ [] = cc in
    let head : a ≡ b = cc in
    let parts = snoc_parts xs ys x y rest in
    let tails : xs ≡ ys = parts.0 in
    (cc, parts.1)

pub label_law : (bytes digits : List ℕ) (letter : ℕ) (side : Color) (n : ℕ) → bytes ≡ digits ++ letter ∷ [] → side_of_letter letter ≡ Some side
    → ((m : ℕ) → (Some n ≡ Some m) ↔ ((1 ≤ m) × (m ≤ 999999999) × (digits ≡ decimal m)))
    → (label : Label) → (◌≡◌ {A = Option Label} (Some (record { number = n; side = side })) (Some label)) ↔ IsLabel bytes label
label_law bytes digits letter side n form of_side number label =
    let here = (number n).0 refl in
    let digits_are : digits ≡ decimal n = here.2 in
    let written : bytes ≡ decimal n ++ letter ∷ [] = cc in (
      λ e. let same : record { number = n; side = side } ≡ label = cc in
          subst (IsLabel bytes) same (record { letter = letter; side = of_side; form = written; least = here.0; most = here.1 }),
      λ h.
          let parts = snoc_parts digits (decimal label.number) letter h.letter (sym form ∙ h.form) in
          let letters : letter ≡ h.letter = parts.1 in
          let sides : Some side ≡ Some label.side = sym of_side ∙ (ap side_of_letter letters ∙ h.side) in
          let numbers : Some n ≡ Some label.number = (number label.number).1 (h.least, h.most, parts.0) in
          let side_same : side ≡ label.side = cc in
          let number_same : n ≡ label.number = cc in
          λ i. Some (record { number = number_same i; side = side_same i }),
    )
