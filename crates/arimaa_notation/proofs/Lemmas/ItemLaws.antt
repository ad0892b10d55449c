-- How a text falls into items.
use Rattle.std.proofs.Common.{◌≡◌, ℕ, ◌+◌, ◌<◌, ◌≤◌, List, [], ◌∷◌, ◌++◌, length, take, drop, get_or, refl, sym, ◌∙◌, ap, subst, arith, length-drop, length-take-le, length-append, take-append-drop, Bool, true, false, not, true≢false, ⊎_elim}
use Rattle.std.specs.Prelude.{filter, All, ◌==◌}
use Rattle.std.specs.List.{slice_split, prefix_len, position_or_len}
use Rattle.std.proofs.lemmas.Bool.{cases_lt}
use Rattle.std.proofs.lemmas.List.{append-nil, get_or-drop, get_or-take, get_or_past}
use Rattle.std.proofs.lemmas.List.Elements.{All-tail, All-from_get_or}
use Rattle.std.proofs.lemmas.List.Splits.{slice_split-cons_yes, slice_split_none, slice_split_at}
use Rattle.std.proofs.lemmas.List.Sums.{prefix_len-le-length, prefix_len_passes, prefix_len_stops, fails_before_first, passes_at_first}
use Rattle.arimaa_notation.specs.Items.{is_blank, is_filled, items_of, IsFirstItem}

-- a blank at the front is passed over
pub items-blank : (b : ℕ) (bs : List ℕ) → is_blank b ≡ true → items_of (b ∷ bs) ≡ items_of bs
unfolding items_of
items-blank b bs blank = ap (filter is_filled) (slice_split-cons_yes is_blank b bs blank)

items-blanks : (blanks rest : List ℕ) → All (λ b. is_blank b ≡ true) blanks → items_of (blanks ++ rest) ≡ items_of rest
items-blanks [] rest all = refl
items-blanks (b ∷ bs) rest all = items-blank b (bs ++ rest) (all 0 b (omega arith)) ∙ items-blanks bs rest (All-tail (λ c. is_blank c ≡ true) b bs all)

filter-filled : (item : List ℕ) (items : List (List ℕ)) → 0 < length item → filter is_filled (item ∷ items) ≡ item ∷ filter is_filled items
filter-filled [] items filled = absurd (omega arith)
filter-filled (b ∷ bs) items filled = refl

-- what ends at a blank or at the text's end is an item
pub items-item : (item rest : List ℕ) → 0 < length item → All (λ b. is_blank b ≡ false) item → is_blank (get_or rest 0 32) ≡ true → items_of (item ++ rest) ≡ item ∷ items_of rest
unfolding items_of
items-item item [] filled solid ended =
    ap (λ x. filter is_filled (slice_split is_blank x)) (append-nil item)
    ∙ (ap (filter is_filled) (slice_split_none is_blank item solid) ∙ filter-filled item [] filled)
items-item item (c ∷ cs) filled solid ended =
    ap (filter is_filled) (slice_split_at is_blank item c cs solid ended)
    ∙ (filter-filled item (slice_split is_blank cs) filled ∙ ap (λ x. item ∷ x) (sym (items-blank c cs ended)))

-- the first item is the first of the items
pub items-first : (bytes item rest : List ℕ) → IsFirstItem bytes item rest → items_of bytes ≡ item ∷ items_of rest
items-first bytes item rest h = ap items_of h.cut ∙ (items-blanks h.blanks (item ++ rest) h.blank ∙ items-item item rest h.filled h.solid h.ended)

-- the blanks at the front
front_blank : (bytes : List ℕ) → All (λ b. is_blank b ≡ true) (take (prefix_len is_blank bytes) bytes)
front_blank bytes =
    let n = prefix_len is_blank bytes in
    All-from_get_or (λ b. is_blank b ≡ true) (take n bytes) 0
    (λ i less. let small : i < n = omega (arith, length-take-le n bytes (prefix_len-le-length is_blank bytes)) in
    ap is_blank (get_or-take n bytes i 0 small) ∙ prefix_len_passes is_blank bytes i 0 small)

-- the first byte after them
after_blanks : (bytes text : List ℕ) → text ≡ drop (prefix_len is_blank bytes) bytes → 0 < length text → is_blank (get_or text 0 0) ≡ false
after_blanks bytes text is filled =
    let n = prefix_len is_blank bytes in
    let more : n < length bytes = omega (arith, ap length is, length-drop n bytes) in
    let place : n + 0 ≡ n = omega arith in
    ap (λ t. is_blank (get_or t 0 0)) is ∙ (ap is_blank (get_or-drop n bytes 0 0) ∙ (ap (λ k. is_blank (get_or bytes k 0)) place ∙ prefix_len_stops is_blank bytes 0 more))

solid_front : (text : List ℕ) → All (λ b. is_blank b ≡ false) (take (position_or_len is_blank text) text)
solid_front text =
    let m = position_or_len is_blank text in
    All-from_get_or (λ b. is_blank b ≡ false) (take m text) 0
    (λ i less. let small : i < m = omega (arith, length-take-le m text (prefix_len-le-length (λ b. not (is_blank b)) text)) in
    ap is_blank (get_or-take m text i 0 small) ∙ fails_before_first is_blank text i 0 small)

-- what ends the item is a blank or the end
ended_by : (text : List ℕ) → is_blank (get_or (drop (position_or_len is_blank text) text) 0 32) ≡ true
ended_by text =
    let m = position_or_len is_blank text in
    let place : m + 0 ≡ m = omega arith in
    let here : get_or (drop m text) 0 32 ≡ get_or text m 32 = get_or-drop m text 0 32 ∙ ap (λ k. get_or text k 32) place in
    ap is_blank here
    ∙ ⊎_elim (λ (less : m < length text). passes_at_first is_blank text 32 less)
    (λ past. ap is_blank (get_or_past text m 32 past))
    (cases_lt m (length text))

filled_front : (text : List ℕ) → 0 < length text → is_blank (get_or text 0 0) ≡ false → 0 < length (take (position_or_len is_blank text) text)
filled_front [] filled solid = absurd (omega arith)
filled_front (b ∷ bs) filled solid =
    let one : position_or_len is_blank (b ∷ bs) ≡ 1 + position_or_len is_blank bs = rw solid refl in
    omega (arith, length-take-le (position_or_len is_blank (b ∷ bs)) (b ∷ bs) (prefix_len-le-length (λ c. not (is_blank c)) (b ∷ bs)))

-- the blanks at the front, and the item after them
pub first-cut : (bytes text : List ℕ) → text ≡ drop (prefix_len is_blank bytes) bytes → 0 < length text → IsFirstItem bytes (take (position_or_len is_blank text) text) (drop (position_or_len is_blank text) text)
first-cut bytes text is filled =
    let n = prefix_len is_blank bytes in
    let m = position_or_len is_blank text in
    record {
      blanks = take n bytes;
      cut = sym (take-append-drop n bytes) ∙ ap (λ t. take n bytes ++ t) (sym is ∙ sym (take-append-drop m text));
      blank = front_blank bytes;
      filled = filled_front text filled (after_blanks bytes text is filled);
      solid = solid_front text;
      ended = ended_by text;
    }

nil_from_length : (xs : List ℕ) → length xs ≡ 0 → xs ≡ []
nil_from_length [] e = refl
nil_from_length (x ∷ xs) e = absurd (omega arith)

pub no_items : items_of [] ≡ []
unfolding items_of
no_items = refl

-- nothing but blanks
pub items-none : (bytes : List ℕ) → length (drop (prefix_len is_blank bytes) bytes) ≡ 0 → items_of bytes ≡ []
items-none bytes none =
    let n = prefix_len is_blank bytes in
    ap items_of (sym (take-append-drop n bytes))
    ∙ (items-blanks (take n bytes) (drop n bytes) (front_blank bytes) ∙ (ap items_of (nil_from_length _ none) ∙ no_items))

-- what the two splits of the code give
pub first-split : (bytes text item rest : List ℕ) (n m : ℕ) (empty : Bool) → text ≡ drop n bytes → n ≡ prefix_len is_blank bytes → empty ≡ (length text == 0) → empty ≡ false → item ≡ take m text → rest ≡ drop m text → m ≡ position_or_len is_blank text → IsFirstItem bytes item rest
first-split bytes text item rest n m empty is blanks tested filled front back length_is =
    let whole : text ≡ drop (prefix_len is_blank bytes) bytes = is ∙ ap (λ k. drop k bytes) blanks in
    let found = first-cut bytes text whole (filled_from_test text empty tested filled) in
    let front_is : item ≡ take (position_or_len is_blank text) text = front ∙ ap (λ k. take k text) length_is in
    let back_is : rest ≡ drop (position_or_len is_blank text) text = back ∙ ap (λ k. drop k text) length_is in
    let P : List ℕ → Type 0 = λ x. IsFirstItem bytes x rest in
    let Q : List ℕ → Type 0 = λ x. IsFirstItem bytes (take (position_or_len is_blank text) text) x in
    subst P (sym front_is) (subst Q (sym back_is) found)
  where
    filled_from_test : (t : List ℕ) (b : Bool) → b ≡ (length t == 0) → b ≡ false → 0 < length t
    filled_from_test [] b is none = absurd (true≢false (sym is ∙ none))
    filled_from_test (x ∷ t) b is none = omega arith

pub first-shorter : (bytes item rest : List ℕ) → IsFirstItem bytes item rest → 1 + length rest ≤ length bytes
first-shorter bytes item rest h =
    omega (arith, ap length h.cut, length-append h.blanks (item ++ rest), length-append item rest, h.filled)
