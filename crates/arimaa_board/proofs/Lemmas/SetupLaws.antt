-- Home squares, and the pieces of a side.
use Rattle.std.proofs.Common.{◌≡◌, ℕ, ◌+◌, ◌<◌, ◌≤◌, List, length, get_or, sym, ◌∙◌, ap, arith, Some, subst, rules}
use Rattle.std.specs.List.{range_with_len}
use Rattle.std.specs.List.Sorted.{IsPermutation, IsNonDecreasingBy}
use Rattle.std.proofs.lemmas.List.{length-map, get_or-map}
use Rattle.std.proofs.lemmas.List.FromFn.{get_or-range_with_len, length-range_with_len}
use Rattle.std.proofs.lemmas.List.Sorted.{IsPermutation-sym, IsPermutation-trans, IsPermutation-map, length_permutation}
use Rattle.arimaa_board.specs.declared.piece.Color.{Color}
use Rattle.arimaa_board.specs.declared.piece.Color.TheVariants.{Gold, Silver}
use Rattle.arimaa_board.specs.declared.piece.Kind.TheVariants.{Rabbit}
use Rattle.arimaa_board.specs.declared.piece.Piece.{Piece}
use Rattle.arimaa_board.specs.Piece.{code_of, piece_of, piece_of_code}
use Rattle.arimaa_board.specs.CodeLaws.{piece_of_code-code_of_content}
use Rattle.arimaa_board.specs.Setup.{home_squares, first_home, army, squares_in, pieces_in, IsSetup}
use Rattle.arimaa_board.proofs.Lemmas.InOrder.{Rises, rises, same_in_order, range_from_places}

-- pieces with one code are one piece
pub same_piece : (p q : Piece) → code_of p ≡ code_of q → p ≡ q
same_piece p q e =
    let both : Some p ≡ Some q = sym (piece_of_code-code_of_content (Some p)) ∙ (ap piece_of_code e ∙ piece_of_code-code_of_content (Some q)) in
    cc

-- the home squares in order
pub home_from_places : (c : Color) (xs : List ℕ) → length xs ≡ 16 → ((k : ℕ) → k < 16 → get_or xs k 0 ≡ first_home c + k) → xs ≡ home_squares c
unfolding home_squares
home_from_places c xs size h = range_from_places (first_home c) 16 xs size h

pub home_place : (c : Color) (xs : List ℕ) (k : ℕ) → xs ≡ home_squares c → k < 16 → get_or xs k 0 ≡ first_home c + k
unfolding home_squares
home_place c xs k e small = ap (λ (ys : List ℕ). get_or ys k 0) e ∙ get_or-range_with_len (first_home c) 16 k 0 small

home_in_order : (c : Color) → Rises (λ s. s) (home_squares c)
unfolding home_squares
home_in_order c =
    let first = first_home c in
    rises (λ s. s) (range_with_len first 16)
    (λ (i j d : ℕ) (le : i ≤ j) (less : j < length (range_with_len first 16)). let small : j < 16 = omega (arith, length-range_with_len first 16) in
    omega (arith, get_or-range_with_len first 16 i d (omega arith), get_or-range_with_len first 16 j d small))

-- squares in order are the home squares where they are those in any order
pub home_from_order : (c : Color) (xs : List ℕ) → IsNonDecreasingBy (λ s. s) xs → IsPermutation xs (home_squares c) → xs ≡ home_squares c
home_from_order c xs up same = same_in_order (λ s. s) (λ x y e. e) xs (home_squares c) up (home_in_order c) same

army_in_order : (c : Color) → Rises code_of (army c)
unfolding army
army_in_order Gold = search rules
army_in_order Silver = search rules

-- pieces in the order of their codes are the side's where they are those in any order
pub army_from_order : (c : Color) (ps : List Piece) → IsNonDecreasingBy code_of ps → IsPermutation ps (army c) → ps ≡ army c
army_from_order c ps up same = same_in_order code_of same_piece ps (army c) up (army_in_order c) same

pub size_of_setup : (c : Color) (pairs : List (ℕ × Piece)) → IsSetup c pairs → length pairs ≡ 16
unfolding home_squares
size_of_setup c pairs h =
    let size : length (squares_in pairs) ≡ length pairs = length-map _ _ in
    omega (arith, length_permutation _ _ h.squares, size, length-range_with_len (first_home c) 16)

-- the rule in order of square gives it in any order
pub setup_from_order : (c : Color) (pairs sorted : List (ℕ × Piece)) → IsPermutation pairs sorted → squares_in sorted ≡ home_squares c → IsPermutation (pieces_in sorted) (army c) → IsSetup c pairs
setup_from_order c pairs sorted same home own =
    let P : List ℕ → Type 0 = λ xs. IsPermutation (squares_in pairs) xs in
    record {
      squares = subst P home (IsPermutation-map (λ (p : ℕ × Piece). p.0) pairs sorted same);
      pieces = IsPermutation-trans _ _ _ (IsPermutation-map (λ (p : ℕ × Piece). p.1) pairs sorted same) own;
    }

pub army_of_setup : (c : Color) (pairs sorted : List (ℕ × Piece)) → IsPermutation pairs sorted → IsSetup c pairs → IsPermutation (pieces_in sorted) (army c)
army_of_setup c pairs sorted same h =
    IsPermutation-trans _ _ _ (IsPermutation-sym _ _ (IsPermutation-map (λ (p : ℕ × Piece). p.1) pairs sorted same)) h.pieces

squares_rise : (pairs : List (ℕ × Piece)) → IsNonDecreasingBy (λ (p : ℕ × Piece). p.0) pairs → IsNonDecreasingBy (λ s. s) (squares_in pairs)
squares_rise pairs up =
    λ i j d le less.
    let other : ℕ × Piece = (d, piece_of Gold Rabbit) in
    let size : length (squares_in pairs) ≡ length pairs = length-map _ _ in
    omega (arith, up i j other le (omega arith), get_or-map (λ (p : ℕ × Piece). p.0) pairs i other d (omega arith), get_or-map (λ (p : ℕ × Piece). p.0) pairs j other d (omega arith))

-- where the squares rise, they are the home squares
pub home_of_setup : (c : Color) (pairs sorted : List (ℕ × Piece)) → IsPermutation pairs sorted → IsNonDecreasingBy (λ (p : ℕ × Piece). p.0) sorted → IsSetup c pairs → squares_in sorted ≡ home_squares c
home_of_setup c pairs sorted same up h =
    home_from_order c (squares_in sorted) (squares_rise sorted up)
    (IsPermutation-trans _ _ _ (IsPermutation-sym _ _ (IsPermutation-map (λ (p : ℕ × Piece). p.0) pairs sorted same)) h.squares)
