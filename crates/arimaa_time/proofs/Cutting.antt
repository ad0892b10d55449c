-- A text that is cut at a byte.
use Rattle.std.proofs.Common.{◌≡◌, ℕ, ◌+◌, ◌<◌, ◌≤◌, true, false, eqb, ltb, List, [], ◌∷◌, ◌++◌, length, slice_get, IsTrue, is_some, option_copied, Bool, ◌↔◌, Bor, get_or, take, drop, Option, Some, None, refl, sym, ap, ◌∙◌, subst, inl, inr, suc, arith}
use Rattle.std.specs.List.{All, position_or_len, before_first, after_first}
use Rattle.std.proofs.lemmas.Bool.{ltb-true, lt-ltb, le-ltb, eqb-true, eq-eqb, cond-true, cond-false, cases_lt, false≢true}
use Rattle.std.proofs.lemmas.Option.{none-some, cond_some}
use Rattle.std.proofs.lemmas.List.{take_at, drop_at, drop-drop, get_or_at, get_or_append_left, get_or-take, length-append, length-take}
use Rattle.std.proofs.lemmas.List.Sums.{split_at_first, fails_before_first, passes_at_first, position_or_len_is}
use Rattle.std.proofs.lemmas.List.Splits.{slice_split_at, slice_split_none, length-slice_split}
use Rattle.arimaa_time.specs.Reading.{cut_of}
use Rattle.arimaa_time.specs.Fields.{fields, fields_left}

-- no byte of a text is this one
abbrev pub Lacks : ℕ → List ℕ → Type 0
Lacks byte text = All (λ b. eqb b byte ≡ false) text

-- the place of the first such byte
abbrev first : ℕ → List ℕ → ℕ
first byte text = position_or_len (λ b. eqb b byte) text

-- the cut at the first such byte, where there is one
cut_of-first : (byte : ℕ) (text : List ℕ) (n : ℕ) → first byte text ≡ n → n < length text → cut_of byte text ≡ Some (take n text, drop (n + 1) text)
unfolding cut_of
cut_of-first byte text n e within =
    cond-true (ltb (first byte text) (length text)) (Some (take (first byte text) text, drop (first byte text + 1) text)) None (lt-ltb _ _ (omega (arith, e)))
    ∙ ap (λ m. Some (take m text, drop (m + 1) text)) e

pub cut_of-none : (byte : ℕ) (text : List ℕ) → Lacks byte text → cut_of byte text ≡ None
unfolding cut_of
cut_of-none byte text lacks =
    let at_end : first byte text ≡ length text = position_or_len_is (λ b. eqb b byte) text (length text) 0 (omega arith) (λ k below. lacks k 0 below) (λ h. absurd (omega arith)) in
    cond-false (ltb (first byte text) (length text)) (Some (take (first byte text) text, drop (first byte text + 1) text)) None (le-ltb (first byte text) (length text) (omega (arith, at_end)))

pub cut_of-at : (byte : ℕ) (front back : List ℕ) → Lacks byte front → cut_of byte (front ++ byte ∷ back) ≡ Some (front, back)
cut_of-at byte front back lacks =
    let text = front ++ byte ∷ back in
    let n = length front in
    let longer : length text ≡ n + suc (length back) = length-append front (byte ∷ back) in
    let here : eqb (get_or text n 0) byte ≡ true = eq-eqb (get_or text n 0) byte (get_or_at front byte back 0 n refl) in
    let found : first byte text ≡ n = position_or_len_is (λ b. eqb b byte) text n 0 (omega arith)
    (λ k below. ap (λ b. eqb b byte) (get_or_append_left front (byte ∷ back) 0 k below) ∙ lacks k 0 below) (λ h. here) in
    let rest : drop (n + 1) text ≡ back = sym (drop-drop 1 n text) ∙ ap (drop 1) (drop_at front (byte ∷ back) n refl) in
    cut_of-first byte text n found (omega arith) ∙ ap (λ l. Some (l, drop (n + 1) text)) (take_at front (byte ∷ back) n refl) ∙ ap (λ r. Some (front, r)) rest

pub Lacks-none : (byte : ℕ) (text : List ℕ) → cut_of byte text ≡ None → Lacks byte text
Lacks-none byte text e =
    let past : length text ≤ first byte text = elim (cases_lt (first byte text) (length text)) [
      | inl within ↦ absurd (none-some _ (sym e ∙ cut_of-first byte text (first byte text) refl within))
      | inr past ↦ past
    ] in
    λ k d within. fails_before_first (λ b. eqb b byte) text k d (omega arith)

-- the two halves of a cut
pub record Halves (byte : ℕ) (text front back : List ℕ) : Type 0 where
  pub joined : text ≡ front ++ byte ∷ back
  pub lacks : Lacks byte front

halves : (byte : ℕ) (text : List ℕ) → first byte text < length text → Halves byte text (before_first (λ b. eqb b byte) text) (after_first (λ b. eqb b byte) text)
halves byte text within =
    let here : get_or text (first byte text) 0 ≡ byte = eqb-true _ _ (passes_at_first (λ b. eqb b byte) text 0 within) in
    record {
      joined = split_at_first (λ b. eqb b byte) text 0 within ∙ ap (λ b. before_first (λ b. eqb b byte) text ++ (b ∷ after_first (λ b. eqb b byte) text)) here;
      lacks = λ k d below.
          let inside : k < first byte text = omega (arith, length-take (first byte text) text) in
          ap (λ b. eqb b byte) (get_or-take (first byte text) text k d inside) ∙ fails_before_first (λ b. eqb b byte) text k d inside;
    }

pub Halves-cut : (byte : ℕ) (text front back : List ℕ) → cut_of byte text ≡ Some (front, back) → Halves byte text front back
unfolding cut_of
Halves-cut byte text front back e =
    let both = cond_some (ltb (first byte text) (length text)) (before_first (λ b. eqb b byte) text, after_first (λ b. eqb b byte) text) (front, back) e in
    let P : List ℕ × List ℕ → Type 0 = λ h. Halves byte text h.0 h.1 in
    subst P both.1 (halves byte text (ltb-true _ _ both.0))

-- a text with a slash is its first field and the others
pub fields-some : (text front back : List ℕ) → cut_of 47 text ≡ Some (front, back) → fields text ≡ front ∷ fields back
fields-some text front back e =
    let halves = Halves-cut 47 text front back e in
    ap fields halves.joined ∙ slice_split_at (λ b. eqb b 47) front 47 back halves.lacks refl

-- a text with no slash is one field
pub fields-none : (text : List ℕ) → cut_of 47 text ≡ None → fields text ≡ text ∷ []
fields-none text e = slice_split_none (λ b. eqb b 47) text (Lacks-none 47 text e)

-- the first of the fields that are left, and the others
pub fields_left-some : (text : List ℕ) (front back : List ℕ) (now : List (List ℕ)) → fields text ≡ now → cut_of 47 text ≡ Some (front, back) → (Some front ≡ slice_get now 0) × (fields back ≡ drop 1 now)
fields_left-some text front back now is cut =
    let split : front ∷ fields back ≡ now = sym (fields-some text front back cut) ∙ is in
    (ap (λ l. slice_get l 0) split, ap (drop 1) split)

pub fields_left-none : (text : List ℕ) (now : List (List ℕ)) → fields text ≡ now → cut_of 47 text ≡ None → (Some text ≡ slice_get now 0) × ([] ≡ drop 1 now)
fields_left-none text now is cut =
    let whole : text ∷ [] ≡ now = sym (fields-none text cut) ∙ is in
    (ap (λ l. slice_get l 0) whole, ap (drop 1) whole)

-- a text has a field
pub fields-length : (text : List ℕ) → 0 < length (fields text)
fields-length text = omega (arith, length-slice_split (λ b. eqb b 47) text)

-- a field is left where a text is
pub fields_left-length : (left : Option (Bor (List ℕ))) (now : List (List ℕ)) (some : Bool) → fields_left (option_copied left) ≡ now → some ≡ is_some left → IsTrue some ↔ (0 < length now)
fields_left-length None now some is e =
    (λ h. absurd (false≢true (sym e ∙ h)), λ h. absurd (omega (arith, ap length is)))
fields_left-length (Some text) now some is e =
    (λ h. omega (arith, ap length is, fields-length text.now), λ h. e)
