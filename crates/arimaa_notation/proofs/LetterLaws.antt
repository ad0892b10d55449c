-- Letters, and that no two steps, marks or entries are spelled alike.
use Rattle.std.proofs.Common.{◌≡◌, ℕ, List, [], ◌∷◌, None, Some, true, false, cond, refl, sym, ◌∙◌, ap, arith, eqb-true, get_or}
use Rattle.std.specs.Prelude.{◌==◌, IfSome}
use Rattle.std.specs.List.{find}
use Rattle.arimaa_board.specs.declared.piece.Piece.{Piece}
use Rattle.arimaa_board.specs.declared.position.Step.{Step}
use Rattle.arimaa_board.specs.declared.square.Dir.{Dir}
use Rattle.arimaa_board.specs.declared.square.Dir.TheVariants.{North, East, South, West}
use Rattle.arimaa_board.specs.Piece.{letter_of, piece_of_letter, all_pieces}
use Rattle.arimaa_board.proofs.Lemmas.TextLaws.{piece_of_letter-letter_of_content}
use Rattle.arimaa_notation.specs.Written.{column_of, row_of, letter_of_dir, text_of_step, text_of_mark, text_of_entry}

-- a piece that is found by a letter has it
found_by_letter : (b : ℕ) (ps : List Piece) → IfSome (find (λ p. letter_of p == b) ps) (λ p. b ≡ letter_of p)
found_by_letter b [] = tt
found_by_letter b (p ∷ ps) =
    elim (letter_of p == b) as (λ v. (letter_of p == b) ≡ v → IfSome (cond v (Some p) (find (λ q. letter_of q == b) ps)) (λ q. b ≡ letter_of q)) [
      | true ↦ λ e. sym (eqb-true _ _ e)
      | false ↦ λ _. found_by_letter b ps
    ] refl

pub letter_some : (b : ℕ) → IfSome (piece_of_letter b) (λ p. b ≡ letter_of p)
unfolding piece_of_letter
letter_some b = found_by_letter b all_pieces

pub letter_none : (b : ℕ) (p : Piece) → piece_of_letter b ≡ None → b ≡ letter_of p → ⊥
letter_none b p none is =
    let some : piece_of_letter b ≡ Some p = ap piece_of_letter is ∙ piece_of_letter-letter_of_content (Some p) in
    let both : None ≡ Some p = sym none ∙ some in
    cc

-- no two pieces have one letter
same_letter : (p q : Piece) → letter_of p ≡ letter_of q → p ≡ q
same_letter p q e =
    let both : Some p ≡ Some q = sym (piece_of_letter-letter_of_content (Some p)) ∙ (ap piece_of_letter e ∙ piece_of_letter-letter_of_content (Some q)) in
    cc

-- no two squares have one column and one row
same_square : (s t : ℕ) → column_of s ≡ column_of t → row_of s ≡ row_of t → s ≡ t
same_square s t column row = omega arith

same_dir : (d e : Dir) → letter_of_dir d ≡ letter_of_dir e → d ≡ e
same_dir North North h = refl
same_dir North East h = absurd (omega arith)
same_dir North South h = absurd (omega arith)
same_dir North West h = absurd (omega arith)
same_dir East North h = absurd (omega arith)
same_dir East East h = refl
same_dir East South h = absurd (omega arith)
same_dir East West h = absurd (omega arith)
same_dir South North h = absurd (omega arith)
same_dir South East h = absurd (omega arith)
same_dir South South h = refl
same_dir South West h = absurd (omega arith)
same_dir West North h = absurd (omega arith)
same_dir West East h = absurd (omega arith)
same_dir West South h = absurd (omega arith)
same_dir West West h = refl

-- no direction is written with an x
no_cross : (d : Dir) → letter_of_dir d ≡ 120 → ⊥
no_cross North h = omega arith
no_cross East h = omega arith
no_cross South h = omega arith
no_cross West h = omega arith

-- the byte of a text at a place
at_place : {xs ys : List ℕ} (k : ℕ) → xs ≡ ys → get_or xs k 0 ≡ get_or ys k 0
at_place k e = ap (λ xs. get_or xs k 0) e

pub same_step : (s t : Step) → text_of_step s ≡ text_of_step t → s ≡ t
same_step s t e =
    let piece : s.piece ≡ t.piece = same_letter s.piece t.piece (at_place 0 e) in
    let from : s.from ≡ t.from = same_square s.from t.from (at_place 1 e) (at_place 2 e) in
    let dir : s.dir ≡ t.dir = same_dir s.dir t.dir (at_place 3 e) in
    λ i. record { piece = piece i; from = from i; dir = dir i }

pub same_mark : (m n : Piece × ℕ) → text_of_mark m ≡ text_of_mark n → m ≡ n
same_mark m n e =
    let piece : m.0 ≡ n.0 = same_letter m.0 n.0 (at_place 0 e) in
    let square : m.1 ≡ n.1 = same_square m.1 n.1 (at_place 1 e) (at_place 2 e) in
    λ i. (piece i, square i)

pub same_entry : (d e : ℕ × Piece) → text_of_entry d ≡ text_of_entry e → d ≡ e
same_entry d e h =
    let piece : d.1 ≡ e.1 = same_letter d.1 e.1 (at_place 0 h) in
    let square : d.0 ≡ e.0 = same_square d.0 e.0 (at_place 1 h) (at_place 2 h) in
    λ i. (square i, piece i)

-- no step is spelled as a mark
pub step_no_mark : (s : Step) (m : Piece × ℕ) → text_of_step s ≡ text_of_mark m → ⊥
step_no_mark s m e = no_cross s.dir (at_place 3 e)
