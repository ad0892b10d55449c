-- The cells of a board's text, and the text read back.
use Rattle.std.proofs.Common.{◌≡◌, ℕ, suc, ◌+◌, ◌-◌, ◌<◌, List, [], ◌∷◌, set, length, get_or, Option, None, Some, true, false, refl, sym, ◌∙◌, ap, subst, arith, ⊎_elim, add-one, ext_get_or, length-set, get_or-set_same, get_or-set_other, length-append}
use Rattle.std.specs.Prelude.{not, is_some, is_ok, Result, Ok, Err}
use Rattle.std.proofs.lemmas.Bool.{cases_eq, or_right, true≢false}
use Rattle.std.proofs.lemmas.List.{get_or_append_left, get_or_at}
use Rattle.std.proofs.lemmas.List.FromFn.{length-map-range_with_len, get_or-map-range_with_len}
use Rattle.arimaa_board.specs.declared.piece.Color.{Color}
use Rattle.arimaa_board.specs.declared.piece.Color.TheVariants.{Gold, Silver}
use Rattle.arimaa_board.specs.declared.piece.Kind.{Kind}
use Rattle.arimaa_board.specs.declared.piece.Kind.TheVariants.{Rabbit, Cat, Dog, Horse, Camel, Elephant}
use Rattle.arimaa_board.specs.declared.piece.Piece.{Piece}
use Rattle.arimaa_board.specs.declared.board.Board.{Board}
use Rattle.arimaa_board.specs.Piece.{piece_of, letter_of, piece_of_letter}
use Rattle.arimaa_board.specs.Board.{at}
use Rattle.arimaa_board.specs.BoardLaws.{same_boards, length-board_of, at-board_of}
use Rattle.arimaa_board.specs.Fit.{IsFit, fault_of}
use Rattle.arimaa_board.specs.Text.{turned, letter_of_content, places_of, text_of, is_letter, letter_at, bad_letter_of, board_shown, reading_of}
use Rattle.arimaa_board.proofs.Lemmas.Finds.{find-first, find-no_number}
use Rattle.arimaa_board.proofs.Fitness.{fault_of-Decides}

length-places_of : (b : Board) → length (places_of b) ≡ 64
unfolding places_of
length-places_of b = length-map-range_with_len (λ k. letter_of_content (at b (turned k))) 0 64

at-places_of : (b : Board) (k : ℕ) → k < 64 → get_or (places_of b) k 0 ≡ letter_of_content (at b (turned k))
unfolding places_of
at-places_of b k small = get_or-map-range_with_len (λ j. letter_of_content (at b (turned j))) 0 64 k k 0 small (omega arith)

pub length-text_of : (b : Board) → length (text_of b) ≡ 66
length-text_of b = ap suc (length-append (places_of b) (93 ∷ [])) ∙ omega (arith, length-places_of b)

pub letter_at-text_of : (b : Board) (k : ℕ) → k < 64 → letter_at (text_of b) k ≡ letter_of_content (at b (turned k))
letter_at-text_of b k small =
    let inside : k < length (places_of b) = omega (arith, length-places_of b) in
    rw add-one (get_or_append_left (places_of b) (93 ∷ []) 0 k inside ∙ at-places_of b k small)

last-text_of : (b : Board) → get_or (text_of b) 65 0 ≡ 93
last-text_of b = get_or_at (91 ∷ places_of b) 93 [] 0 65 (ap suc (length-places_of b))

-- a text with these cells
pub text_from_cells : (b : Board) (text : List ℕ) → length text ≡ 66 → get_or text 0 0 ≡ 91 → ((k : ℕ) → k < 64 → get_or text (k + 1) 0 ≡ letter_of_content (at b (turned k))) → set text 65 93 ≡ text_of b
text_from_cells b text size first places =
    ext_get_or 0 (set text 65 93) (text_of b) (length-set text 65 93 ∙ (size ∙ sym (length-text_of b)))
    (λ i below. ⊎_elim
    (λ (end : i ≡ 65). subst (λ x. get_or (set text 65 93) x 0 ≡ get_or (text_of b) x 0) (sym end) (get_or-set_same text 65 93 0 (omega arith) ∙ sym (last-text_of b)))
    (λ other. get_or-set_other text 65 i 93 0 other ∙
    ⊎_elim
    (λ (start : i ≡ 0). subst (λ x. get_or text x 0 ≡ get_or (text_of b) x 0) (sym start) first)
    (λ later.
    let inside : i < 66 = omega (arith, length-set text 65 93) in
    let next : (i - 1) + 1 ≡ i = omega arith in
    subst (λ x. get_or text x 0 ≡ get_or (text_of b) x 0) next (places (i - 1) (omega arith) ∙ sym (letter_at-text_of b (i - 1) (omega arith))))
    (cases_eq i 0))
    (cases_eq i 65))

-- the first place that stands for nothing
pub bad_letter-first : (bytes : List ℕ) (k : ℕ) → k < 64 → is_letter (turned k) (letter_at bytes k) ≡ false → ((j : ℕ) → j < k → is_letter (turned j) (letter_at bytes j) ≡ true) → bad_letter_of bytes ≡ Some k
unfolding bad_letter_of
bad_letter-first bytes k small bad good =
    find-first (λ j. not (is_letter (turned j) (letter_at bytes j))) 64 0 k (omega arith) small (ap not bad) (λ j _ less. ap not (good j less))

pub bad_letter-none : (bytes : List ℕ) → ((j : ℕ) → j < 64 → is_letter (turned j) (letter_at bytes j) ≡ true) → bad_letter_of bytes ≡ None
unfolding bad_letter_of
bad_letter-none bytes good = find-no_number (λ j. not (is_letter (turned j) (letter_at bytes j))) 64 0 (λ j _ less. ap not (good j less))

letters : (c : Color) (k : Kind) → piece_of_letter (letter_of (piece_of c k)) ≡ Some (piece_of c k)
unfolding piece_of_letter
letters Gold Rabbit = refl
letters Gold Cat = refl
letters Gold Dog = refl
letters Gold Horse = refl
letters Gold Camel = refl
letters Gold Elephant = refl
letters Silver Rabbit = refl
letters Silver Cat = refl
letters Silver Dog = refl
letters Silver Horse = refl
letters Silver Camel = refl
letters Silver Elephant = refl

pub piece_of_letter-letter_of_content : (p : Option Piece) → piece_of_letter (letter_of_content p) ≡ p
unfolding piece_of_letter
piece_of_letter-letter_of_content None = refl
piece_of_letter-letter_of_content (Some p) = letters p.color p.kind

is_letter-letter_of_content : (s : ℕ) (p : Option Piece) → is_letter s (letter_of_content p) ≡ true
is_letter-letter_of_content s None = refl
is_letter-letter_of_content s (Some p) = or_right _ (is_some (piece_of_letter (letter_of p))) (ap is_some (letters p.color p.kind))

pub turned-turned : (s : ℕ) → s < 64 → turned (turned s) ≡ s
turned-turned s small = omega arith

board_shown-text_of : (b : Board) → length b ≡ 64 → board_shown (text_of b) ≡ b
board_shown-text_of b size =
    same_boards _ b (length-board_of _) size
    (λ s small.
    let place : turned s < 64 = omega arith in
    at-board_of (λ t. piece_of_letter (letter_at (text_of b) (turned t))) s small
    ∙ (ap piece_of_letter (letter_at-text_of b (turned s) place ∙ ap (λ x. letter_of_content (at b x)) (turned-turned s small))
    ∙ piece_of_letter-letter_of_content (at b s)))

-- a faultless answer of no value
pub ok_unit : {E : Type 0} (r : Result Unit E) → is_ok r ≡ true → r ≡ Ok tt
ok_unit (Ok u) e = refl
ok_unit (Err x) e = absurd (true≢false (sym e))

pub reading_of-text_of : (b : Board) → IsFit b → reading_of (text_of b) ≡ Ok b
unfolding reading_of
reading_of-text_of b fit =
    let good = bad_letter-none (text_of b) (λ j small. rw (letter_at-text_of b j small) (is_letter-letter_of_content (turned j) (at b (turned j)))) in
    let faultless = ok_unit (fault_of b) ((fault_of-Decides b fit.size).1 fit) in
    rw (length-text_of b, last-text_of b, good, board_shown-text_of b fit.size, faultless) refl
