-- The bytes of items, and items put one after another.
use Rattle.std.proofs.Common.{◌≡◌, ℕ, zero, suc, ◌+◌, ◌-◌, ◌*◌, ◌<◌, ◌≤◌, List, [], ◌∷◌, ◌++◌, length, take, get_or, refl, sym, ◌∙◌, ap, subst, arith, append_assoc, length-append, Option, Some, None, Bool, true, false, true≢false, eqb-true}
use Rattle.std.specs.Prelude.{◌==◌, fold}
use Rattle.std.specs.List.{flat_map}
use Rattle.std.proofs.lemmas.List.{append-nil, take_more, length-map, map-append}
use Rattle.std.proofs.lemmas.Grind.{flat_map-append}
use Rattle.std.proofs.lemmas.List.FromFn.{length-range_with_len}
use Rattle.arimaa_board.specs.declared.piece.Color.{Color}
use Rattle.arimaa_board.specs.declared.piece.Color.TheVariants.{Gold, Silver}
use Rattle.arimaa_board.specs.declared.piece.Kind.{Kind}
use Rattle.arimaa_board.specs.declared.piece.Kind.TheVariants.{Rabbit, Cat, Dog, Horse, Camel, Elephant}
use Rattle.arimaa_board.specs.declared.piece.Piece.{Piece}
use Rattle.arimaa_board.specs.declared.position.Step.{Step}
use Rattle.arimaa_board.specs.declared.turn.NotedStep.{NotedStep}
use Rattle.arimaa_board.specs.Piece.{letter_of, piece_of}
use Rattle.arimaa_board.specs.Setup.{Lineup, IsLineup, squares_in, home_squares, first_home}
use Rattle.arimaa_notation.specs.Written.{text_of_step, text_of_mark, text_of_entry, items_of_step, items_of_turn, items_of_entries, items_text, with_item, text_of_turn}

letter_within : (c : Color) (k : Kind) → (64 < letter_of (piece_of c k)) × (letter_of (piece_of c k) < 128)
letter_within Gold Rabbit = (omega arith, omega arith)
letter_within Gold Cat = (omega arith, omega arith)
letter_within Gold Dog = (omega arith, omega arith)
letter_within Gold Horse = (omega arith, omega arith)
letter_within Gold Camel = (omega arith, omega arith)
letter_within Gold Elephant = (omega arith, omega arith)
letter_within Silver Rabbit = (omega arith, omega arith)
letter_within Silver Cat = (omega arith, omega arith)
letter_within Silver Dog = (omega arith, omega arith)
letter_within Silver Horse = (omega arith, omega arith)
letter_within Silver Camel = (omega arith, omega arith)
letter_within Silver Elephant = (omega arith, omega arith)

pub letter_ascii : (p : Piece) → letter_of p < 128
letter_ascii p = (letter_within p.color p.kind).1

pub letter_seen : (p : Piece) → 32 < letter_of p
letter_seen p = let above : 64 < letter_of p = (letter_within p.color p.kind).0 in omega arith

-- one more byte of an item
pub with_item-more : (t item old new : List ℕ) (i : ℕ) → i < length item → old ≡ with_item t (take i item) → new ≡ old ++ get_or item i 0 ∷ [] → new ≡ with_item t (take (i + 1) item)
with_item-more [] item old new i less was more = more ∙ (ap (λ x. x ++ get_or item i 0 ∷ []) was ∙ sym (take_more item i 0 less))
with_item-more (b ∷ bs) item old new i less was more =
    more ∙ (ap (λ x. x ++ get_or item i 0 ∷ []) was ∙ (append_assoc (b ∷ bs) (32 ∷ take i item) (get_or item i 0 ∷ []) ∙ ap (λ x. (b ∷ bs) ++ 32 ∷ x) (sym (take_more item i 0 less))))

-- before the first byte of an item: a space where the text is not empty
pub with_item-spaced : (t : List ℕ) (empty : Bool) → empty ≡ (length t == 0) → empty ≡ false → t ++ 32 ∷ [] ≡ with_item t []
with_item-spaced [] empty is filled = absurd (true≢false (sym is ∙ filled))
with_item-spaced (b ∷ bs) empty is filled = refl

pub with_item-first : (t : List ℕ) (empty : Bool) → empty ≡ (length t == 0) → empty ≡ true → t ≡ with_item t []
with_item-first [] empty is none = refl
with_item-first (b ∷ bs) empty is none = absurd (omega (arith, eqb-true (length (b ∷ bs)) 0 (sym is ∙ none)))

-- the first item, if there is one, has a byte
abbrev FirstFilled : List (List ℕ) → Type 0
FirstFilled [] = Unit {0}
FirstFilled (item ∷ items) = 0 < length item

with_item-joined : (items : List (List ℕ)) (item : List ℕ) → FirstFilled items → with_item (items_text items) item ≡ items_text (items ++ item ∷ [])
with_item-joined [] item filled = sym (append-nil item)
with_item-joined ([] ∷ items) item filled = absurd (omega arith)
with_item-joined ((b ∷ bs) ∷ items) item filled =
    let tail : flat_map (λ (i : List ℕ). 32 ∷ i) (items ++ item ∷ []) ≡ flat_map (λ (i : List ℕ). 32 ∷ i) items ++ ((32 ∷ item) ++ []) = flat_map-append (λ (i : List ℕ). 32 ∷ i) items (item ∷ []) in
    let last : (32 ∷ item) ++ [] ≡ 32 ∷ item = append-nil (32 ∷ item) in
    append_assoc (b ∷ bs) (flat_map (λ (i : List ℕ). 32 ∷ i) items) (32 ∷ item)
    ∙ ap (λ x. (b ∷ bs) ++ x) (ap (λ x. flat_map (λ (i : List ℕ). 32 ∷ i) items ++ x) (sym last) ∙ sym tail)

first_of_more : (items more : List (List ℕ)) → FirstFilled (items ++ more) → FirstFilled items
first_of_more [] more filled = tt
first_of_more (item ∷ items) more filled = filled

-- items added one by one are joined
joined-fold : (items more : List (List ℕ)) → FirstFilled (items ++ more) → fold with_item (items_text items) more ≡ items_text (items ++ more)
joined-fold items [] filled = ap items_text (sym (append-nil items))
joined-fold items (item ∷ more) filled =
    let regrouped : (items ++ item ∷ []) ++ more ≡ items ++ (item ∷ more) = append_assoc items (item ∷ []) more in
    ap (λ x. fold with_item x more) (with_item-joined items item (first_of_more items (item ∷ more) filled))
    ∙ (joined-fold (items ++ item ∷ []) more (subst FirstFilled (sym regrouped) filled) ∙ ap items_text regrouped)

turn_first : (ns : List NotedStep) (n : NotedStep) → FirstFilled (items_of_turn ns ++ items_of_step n)
turn_first [] n = omega arith
turn_first (m ∷ ns) n = omega arith

-- one more step of a turn
pub turn-more : (ns : List NotedStep) (n : NotedStep) → fold with_item (text_of_turn ns) (items_of_step n) ≡ text_of_turn (ns ++ n ∷ [])
turn-more ns n =
    joined-fold (items_of_turn ns) (items_of_step n) (turn_first ns n)
    ∙ ap items_text (ap (λ x. items_of_turn ns ++ x) (sym (append-nil (items_of_step n))) ∙ sym (flat_map-append items_of_step ns (n ∷ [])))

entries_first : (es : List (ℕ × Piece)) → FirstFilled (items_of_entries es)
entries_first [] = tt
entries_first (e ∷ es) = omega arith

-- one more entry of a setup
pub entries-more : (es : List (ℕ × Piece)) (e : ℕ × Piece) → with_item (items_text (items_of_entries es)) (text_of_entry e) ≡ items_text (items_of_entries (es ++ e ∷ []))
entries-more es e = with_item-joined (items_of_entries es) (text_of_entry e) (entries_first es) ∙ ap items_text (sym (map-append text_of_entry es (e ∷ [])))

length-with_item : (t item : List ℕ) → length (with_item t item) ≤ length t + (1 + length item)
length-with_item [] item = omega arith
length-with_item (x ∷ t) item = omega (arith, length-append (x ∷ t) (32 ∷ item))

length-with_first : (t item : List ℕ) → length t ≡ 0 → length (with_item t item) ≤ length item
length-with_first [] item none = omega arith
length-with_first (x ∷ t) item none = absurd (omega arith)

-- a step with its mark takes ten bytes at most, one less where it is the first
pub length-more : (t : List ℕ) (n : NotedStep) (i : ℕ) → length t ≤ 10 * i - 1 → length (fold with_item t (items_of_step n)) ≤ 10 * (i + 1) - 1
length-more t n i few = length_by_mark t n.step n.mark i few
  where
    length_by_mark : (t : List ℕ) (s : Step) (m : Option (Piece × ℕ)) (i : ℕ) → length t ≤ 10 * i - 1 → length (fold with_item t (items_of_step (record { step = s; mark = m }))) ≤ 10 * (i + 1) - 1
    length_by_mark t s None zero few = omega (arith, length-with_first t (text_of_step s) (omega arith))
    length_by_mark t s None (suc i) few = omega (arith, length-with_item t (text_of_step s))
    length_by_mark t s (Some m) zero few =
        omega (arith, length-with_first t (text_of_step s) (omega arith), length-with_item (with_item t (text_of_step s)) (text_of_mark m))
    length_by_mark t s (Some m) (suc i) few =
        omega (arith, length-with_item t (text_of_step s), length-with_item (with_item t (text_of_step s)) (text_of_mark m))

-- a setup has sixteen entries
pub size-lineup : (s : Lineup) → IsLineup s → length s.pairs ≡ 16
unfolding home_squares
size-lineup s h =
    let size : length (squares_in s.pairs) ≡ length s.pairs = length-map _ _ in
    omega (arith, ap length h.squares, length-range_with_len (first_home s.color) 16)
