-- A text is read as a board exactly where it is a text of that board.
use Rattle.std.proofs.Common.{◌≡◌, ◌⊎◌, ◌<◌, ◌≤◌, ℕ, ◌+◌, List, [], ◌∷◌, length, Option, None, Some, Bool, true, false, cond, IsTrue, refl, sym, ◌∙◌, ap, subst, arith, inl, inr, ⊎_elim, eqb-true}
use Rattle.std.specs.Prelude.{◌==◌, ◌&&◌, ◌||◌, ◌↔◌, not, is_some, is_ok, Result, Ok, Err, slice_index, if◌then◌else◌}
use Rattle.std.specs.List.{find}
use Rattle.std.proofs.lemmas.Bool.{or_right, true≢false, not-false, and_parts}
use Rattle.arimaa_board.specs.declared.piece.Piece.{Piece}
use Rattle.arimaa_board.specs.declared.board.Board.{Board}
use Rattle.arimaa_board.specs.declared.fault.BoardFault.{BoardFault}
use Rattle.arimaa_board.specs.Piece.{letter_of, piece_of_letter, all_pieces}
use Rattle.arimaa_board.specs.Square.{is_trap}
use Rattle.arimaa_board.specs.Board.{at}
use Rattle.arimaa_board.specs.BoardLaws.{same_boards, length-board_of, at-board_of}
use Rattle.arimaa_board.specs.Fit.{IsFit, fault_of}
use Rattle.arimaa_board.specs.Text.{StandsFor, IsBoardText, turned, is_letter, letter_at, bad_letter_of, board_shown, unless_fault, unless_bad_letter, reading_of}
use Rattle.arimaa_board.proofs.Lemmas.TextLaws.{bad_letter-none, piece_of_letter-letter_of_content, turned-turned, ok_unit}
use Rattle.arimaa_board.proofs.Fitness.{fault_of-Decides}
use Rattle.arimaa_board.proofs.Lemmas.Finds.{all_fail}

-- a piece found by a letter has it
found : (s c : ℕ) (ps : List Piece) → is_some (find (λ p. letter_of p == c) ps) ≡ true → StandsFor s c (find (λ p. letter_of p == c) ps)
found s c [] h = absurd (true≢false (sym h))
found s c (p ∷ ps) h =
    elim (letter_of p == c) as (λ v. (letter_of p == c) ≡ v → is_some (cond v (Some p) (find (λ q. letter_of q == c) ps)) ≡ true → StandsFor s c (cond v (Some p) (find (λ q. letter_of q == c) ps))) [
      | true ↦ λ e _. sym (eqb-true _ _ e)
      | false ↦ λ _ some. found s c ps some
    ] refl h

-- a letter of a square stands for what it is read as
read_StandsFor : (s c : ℕ) → is_letter s c ≡ true → StandsFor s c (piece_of_letter c)
unfolding piece_of_letter
read_StandsFor s c h =
    elim (c == 32) as (λ v. (c == 32) ≡ v → (v || is_trap s && (c == 120 || c == 88) || is_some (piece_of_letter c)) ≡ true → StandsFor s c (piece_of_letter c)) [
      | true ↦ λ e _. subst (λ x. StandsFor s x (piece_of_letter x)) (sym (eqb-true c 32 e)) (inl refl)
      | false ↦ λ _ more.
          elim (is_trap s) as (λ v. is_trap s ≡ v → (v && (c == 120 || c == 88) || is_some (piece_of_letter c)) ≡ true → StandsFor s c (piece_of_letter c)) [
            | true ↦ λ trap rest.
                elim (c == 120) as (λ v. (c == 120) ≡ v → ((v || c == 88) || is_some (piece_of_letter c)) ≡ true → StandsFor s c (piece_of_letter c)) [
                  | true ↦ λ e _. subst (λ x. StandsFor s x (piece_of_letter x)) (sym (eqb-true c 120 e)) (inr (trap, inl refl))
                  | false ↦ λ _ last.
                      elim (c == 88) as (λ v. (c == 88) ≡ v → (v || is_some (piece_of_letter c)) ≡ true → StandsFor s c (piece_of_letter c)) [
                        | true ↦ λ e _. subst (λ x. StandsFor s x (piece_of_letter x)) (sym (eqb-true c 88 e)) (inr (trap, inr refl))
                        | false ↦ λ _ some. found s c all_pieces some
                      ] refl last
                ] refl rest
            | false ↦ λ _ some. found s c all_pieces some
          ] refl more
    ] refl h

-- what stands for something is a letter, and is read as it
shows : (s c : ℕ) (p : Option Piece) → StandsFor s c p → (is_letter s c ≡ true) × (piece_of_letter c ≡ p)
unfolding piece_of_letter
shows s c (Some p) e =
    let back : piece_of_letter c ≡ Some p = ap piece_of_letter e ∙ piece_of_letter-letter_of_content (Some p) in
    (or_right _ (is_some (piece_of_letter c)) (ap is_some back), back)
shows s c None h = ⊎_elim
    (λ (blank : c ≡ 32). subst (λ x. (is_letter s x ≡ true) × (piece_of_letter x ≡ None)) (sym blank) (refl, refl))
    (λ (t : IsTrue (is_trap s) × ((c ≡ 120) ⊎ (c ≡ 88))). ⊎_elim
    (λ (x : c ≡ 120). subst (λ y. (is_letter s y ≡ true) × (piece_of_letter y ≡ None)) (sym x) (rw t.0 refl, refl))
    (λ (x : c ≡ 88). subst (λ y. (is_letter s y ≡ true) × (piece_of_letter y ≡ None)) (sym x) (rw t.0 refl, refl))
    t.1)
    h

-- what an answer that is no refusal says of its parts
opened : (a d : Bool) (x y : BoardFault) (r : Result Board BoardFault) (b : Board) → (if not a then Err x else if not d then Err y else r) ≡ Ok b → (a ≡ true) × (d ≡ true) × (r ≡ Ok b)
opened true true x y r b e = (refl, refl, e)
opened true false x y r b e = cc
opened false d x y r b e = cc

faultless : (b c : Board) (r : Result Unit BoardFault) → unless_fault b r ≡ Ok c → (is_ok r ≡ true) × (b ≡ c)
faultless b c (Ok u) e = (refl, cc)
faultless b c (Err x) e = cc

all_letters : (bytes : List ℕ) (k : Option ℕ) (b : Board) → unless_bad_letter bytes k ≡ Ok b → (k ≡ None) × (is_ok (fault_of (board_shown bytes)) ≡ true) × (board_shown bytes ≡ b)
all_letters bytes None b e = let f = faultless (board_shown bytes) b (fault_of (board_shown bytes)) e in (refl, f.0, f.1)
all_letters bytes (Some k) b e = cc

pub read_IsBoardText : (bytes : List ℕ) (b : Board) → reading_of bytes ≡ Ok b → IsBoardText bytes b
unfolding reading_of bad_letter_of
read_IsBoardText bytes b e =
    let parts = opened (length bytes == 66) (slice_index bytes 0 == 91 && slice_index bytes 65 == 93) _ _ (unless_bad_letter bytes (bad_letter_of bytes)) b e in
    let brackets = and_parts (slice_index bytes 0 == 91) (slice_index bytes 65 == 93) parts.1 in
    let shown = all_letters bytes (bad_letter_of bytes) b parts.2 in
    let good : (j : ℕ) → j < 64 → is_letter (turned j) (letter_at bytes j) ≡ true =
    λ j small. not-false _ (all_fail (λ k. not (is_letter (turned k) (letter_at bytes k))) 64 0 shown.0 j (omega arith) (omega arith)) in
    record {
      size = eqb-true _ _ parts.0;
      opened = eqb-true _ _ brackets.0;
      closed = eqb-true _ _ brackets.1;
      places = λ k small.
          let square : turned k < 64 = omega arith in
          let back : turned (turned k) ≡ k = turned-turned k small in
          let here : at b (turned k) ≡ piece_of_letter (letter_at bytes k) =
          ap (λ x. at x (turned k)) (sym shown.2) ∙ (at-board_of (λ t. piece_of_letter (letter_at bytes (turned t))) (turned k) square ∙ ap (λ x. piece_of_letter (letter_at bytes x)) back) in
          subst (StandsFor (turned k) (letter_at bytes k)) (sym here) (read_StandsFor (turned k) (letter_at bytes k) (good k small));
      fit = subst IsFit shown.2 ((fault_of-Decides (board_shown bytes) (length-board_of _)).0 shown.1);
    }

pub IsBoardText-read : (bytes : List ℕ) (b : Board) → IsBoardText bytes b → reading_of bytes ≡ Ok b
unfolding reading_of
IsBoardText-read bytes b t =
    let good = bad_letter-none bytes (λ j small. (shows (turned j) (letter_at bytes j) (at b (turned j)) (t.places j small)).0) in
    let shown : board_shown bytes ≡ b = same_boards _ b (length-board_of _) t.fit.size (λ s small.
    let place : turned s < 64 = omega arith in
    at-board_of (λ x. piece_of_letter (letter_at bytes (turned x))) s small
    ∙ ((shows (turned (turned s)) (letter_at bytes (turned s)) (at b (turned (turned s))) (t.places (turned s) place)).1
    ∙ ap (at b) (turned-turned s small))) in
    let faultless = ok_unit (fault_of b) ((fault_of-Decides b t.fit.size).1 t.fit) in
    rw (t.size, t.opened, t.closed, good, shown, faultless) refl

pub reading : (bytes : List ℕ) (b : Board) → (reading_of bytes ≡ Ok b) ↔ IsBoardText bytes b
reading bytes b = (read_IsBoardText bytes b, IsBoardText-read bytes b)
