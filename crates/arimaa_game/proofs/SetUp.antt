-- The board after both setups: what stands where, and that it is fit.
use Rattle.std.proofs.Common.{◌≡◌, ◌≢◌, ℕ, zero, suc, ◌+◌, ◌<◌, ◌≤◌, List, [], ◌∷◌, length, get_or, Option, None, Some, Bool, cond, ◌⊎◌, inl, inr, ⊎_elim, refl, sym, ◌∙◌, ap, subst, arith, length-set}
use Rattle.std.specs.Prelude.{count_by, map, All}
use Rattle.std.specs.List.{range_with_len}
use Rattle.std.proofs.lemmas.Bool.{cases_eq}
use Rattle.std.proofs.lemmas.List.{get_or-map, length-map}
use Rattle.std.proofs.lemmas.List.FromFn.{get_or-range_with_len, length-range_with_len}
use Rattle.std.proofs.lemmas.List.Sorted.{sum_by-IsPermutation}
use Rattle.std.proofs.lemmas.List.Sums.{sum_by-cons, sum_by-set}
use Rattle.arimaa_board.specs.declared.piece.Color.{Color}
use Rattle.arimaa_board.specs.declared.piece.Color.TheVariants.{Gold, Silver}
use Rattle.arimaa_board.specs.declared.piece.Kind.{Kind}
use Rattle.arimaa_board.specs.declared.piece.Kind.TheVariants.{Rabbit, Cat, Dog, Horse, Camel, Elephant}
use Rattle.arimaa_board.specs.declared.piece.Piece.{Piece}
use Rattle.arimaa_board.specs.Piece.{number_of, piece_of}
use Rattle.arimaa_board.specs.Board.{Squares, at, board_of, count_of, empty_board, holds, kept, put, settle}
use Rattle.arimaa_board.specs.BoardLaws.{at-board_of, at-put_other, at-put_same, kept_off_traps, length-board_of, no_trap, same_boards}
use Rattle.arimaa_board.specs.Fit.{IsFit}
use Rattle.arimaa_board.specs.Setup.{IsLineup, Lineup, army, home_squares, pieces_in, squares_in}
use Rattle.arimaa_game.specs.Setups.{HoldsSetups, board_after_setups, with_pairs}

-- the squares of the pairs are the next ones from a first square on
abbrev Next : ℕ → List (ℕ × Piece) → Type 0
Next first pairs = squares_in pairs ≡ range_with_len first (length pairs)

first-next : (first : ℕ) (pair : ℕ × Piece) (rest : List (ℕ × Piece)) → Next first (pair ∷ rest) → pair.0 ≡ first
first-next first pair rest is = ap (λ (xs : List ℕ). get_or xs 0 0) is

rest-next : (first : ℕ) (pair : ℕ × Piece) (rest : List (ℕ × Piece)) → Next first (pair ∷ rest) → Next (first + 1) rest
rest-next first pair rest is = cc

pub length-with_pairs : (pairs : List (ℕ × Piece)) (b : Squares) → length (with_pairs b pairs) ≡ length b
length-with_pairs [] b = refl
length-with_pairs (pair ∷ rest) b = length-with_pairs rest (put b pair.0 (Some pair.1)) ∙ length-set b pair.0 (Some pair.1)

-- another square stays as it is
pub with_pairs-other : (pairs : List (ℕ × Piece)) (first : ℕ) (b : Squares) (t : ℕ) → Next first pairs → (t < first) ⊎ (first + length pairs ≤ t) → at (with_pairs b pairs) t ≡ at b t
with_pairs-other [] first b t next apart = refl
with_pairs-other (pair ∷ rest) first b t next apart =
    let here : pair.0 ≡ first = first-next first pair rest next in
    let other : t ≢ pair.0 = ⊎_elim (λ less e. omega arith) (λ more e. omega arith) apart in
    let further : (t < first + 1) ⊎ (first + 1 + length rest ≤ t) = ⊎_elim (λ less. inl (omega arith)) (λ more. inr (omega arith)) apart in
    with_pairs-other rest (first + 1) (put b pair.0 (Some pair.1)) t (rest-next first pair rest next) further ∙ at-put_other b pair.0 t (Some pair.1) other

all-cons : (P : ℕ × Piece → Type 0) (pair : ℕ × Piece) (rest : List (ℕ × Piece)) → P pair → All P rest → All P (pair ∷ rest)
all-cons P pair rest here deep zero d small = here
all-cons P pair rest here deep (suc k) d small = deep k d (omega arith)

-- each piece stands on its square
pub with_pairs-stand : (pairs : List (ℕ × Piece)) (first : ℕ) (b : Squares) → Next first pairs → first + length pairs ≤ length b → All (λ (pair : ℕ × Piece). at (with_pairs b pairs) pair.0 ≡ Some pair.1) pairs
with_pairs-stand [] first b next room = λ k d small. absurd (omega arith)
with_pairs-stand (pair ∷ rest) first b next room =
    let here : pair.0 ≡ first = first-next first pair rest next in
    let more : Squares = put b pair.0 (Some pair.1) in
    let inside : pair.0 < length b = omega arith in
    let long : length (put b pair.0 (Some pair.1)) ≡ length b = length-set b pair.0 (Some pair.1) in
    let later = rest-next first pair rest next in
    all-cons (λ (q : ℕ × Piece). at (with_pairs more rest) q.0 ≡ Some q.1) pair rest
    (with_pairs-other rest (first + 1) more pair.0 later (inl (omega arith)) ∙ at-put_same b pair.0 (Some pair.1) inside)
    (with_pairs-stand rest (first + 1) more later (omega arith))

-- the pieces are added to those that stood on other squares
module _ (p : Piece) where
  abbrev one : Option Piece → ℕ
  one o = cond (holds p o) 1 0

  abbrev is_one : Piece → Bool
  is_one q = holds p (Some q)

  pub with_pairs-count : (pairs : List (ℕ × Piece)) (first : ℕ) (b : Squares) → Next first pairs → first + length pairs ≤ length b → ((t : ℕ) → first ≤ t → t < first + length pairs → at b t ≡ None) → count_of (with_pairs b pairs) p ≡ count_of b p + count_by is_one (pieces_in pairs)
  with_pairs-count [] first b next room free = omega arith
  with_pairs-count (pair ∷ rest) first b next room free =
      let here : pair.0 ≡ first = first-next first pair rest next in
      let inside : pair.0 < length b = omega arith in
      let more : Squares = put b pair.0 (Some pair.1) in
      let long : length (put b pair.0 (Some pair.1)) ≡ length b = length-set b pair.0 (Some pair.1) in
      let empty : at b pair.0 ≡ None = free pair.0 (omega arith) (omega arith) in
      let none : one (at b pair.0) ≡ 0 = ap one empty in
      let placed : count_of (put b pair.0 (Some pair.1)) p + one (at b pair.0) ≡ count_of b p + one (Some pair.1) = sum_by-set one b pair.0 (Some pair.1) None inside in
      let deep : count_of (with_pairs (put b pair.0 (Some pair.1)) rest) p ≡ count_of (put b pair.0 (Some pair.1)) p + count_by is_one (pieces_in rest) =
      with_pairs-count rest (first + 1) (put b pair.0 (Some pair.1)) (rest-next first pair rest next) (omega arith)
      (λ t low high. let other : t ≢ pair.0 = λ e. omega arith in at-put_other b pair.0 t (Some pair.1) other ∙ free t (omega arith) (omega arith)) in
      let all : count_by is_one (pieces_in (pair ∷ rest)) ≡ one (Some pair.1) + count_by is_one (pieces_in rest) = sum_by-cons (λ q. cond (is_one q) 1 0) pair.1 (pieces_in rest) in
      omega (arith, none, placed, deep, all)

  empty-count : count_of empty_board p ≡ 0
  unfolding board_of
  empty-count = none_of (range_with_len 0 64) where
    none_of : (xs : List ℕ) → count_by (holds p) (map (λ _. None) xs) ≡ 0
    none_of [] = refl
    none_of (x ∷ xs) = let rest = none_of xs in let whole = sum_by-cons one None (map (λ _. None) xs) in omega (arith, rest, whole)

-- both sides together have no more of a piece than a side may have
army-few : (c : Color) (k : Kind) → count_by (is_one (piece_of c k)) (army Gold) + count_by (is_one (piece_of c k)) (army Silver) ≤ number_of k
unfolding army
army-few Gold Rabbit = omega arith
army-few Gold Cat = omega arith
army-few Gold Dog = omega arith
army-few Gold Horse = omega arith
army-few Gold Camel = omega arith
army-few Gold Elephant = omega arith
army-few Silver Rabbit = omega arith
army-few Silver Cat = omega arith
army-few Silver Dog = omega arith
army-few Silver Horse = omega arith
army-few Silver Camel = omega arith
army-few Silver Elephant = omega arith

-- a board without a piece on a trap is settled
clear-settled : (b : Squares) → length b ≡ 64 → at b 18 ≡ None → at b 21 ≡ None → at b 42 ≡ None → at b 45 ≡ None → settle b ≡ b
unfolding settle
clear-settled b size x y z w =
    same_boards _ b (length-board_of _) size (λ s small. at-board_of (λ t. kept b t (at b t)) s small ∙
    let G : ℕ → Type 0 = λ t. kept b t (at b t) ≡ at b t in
    ⊎_elim (λ (e : s ≡ 45). subst G (sym e) (rw w refl))
    (λ d. ⊎_elim (λ (e : s ≡ 42). subst G (sym e) (rw z refl))
    (λ c. ⊎_elim (λ (e : s ≡ 21). subst G (sym e) (rw y refl))
    (λ a. ⊎_elim (λ (e : s ≡ 18). subst G (sym e) (rw x refl))
    (λ o. kept_off_traps b s (at b s) (no_trap s o a c d))
    (cases_eq s 18))
    (cases_eq s 21))
    (cases_eq s 42))
    (cases_eq s 45))

module _ (gold silver : Lineup) (g : IsLineup gold) (s : IsLineup silver) (is_gold : gold.color ≡ Gold) (is_silver : silver.color ≡ Silver) where
  sixteen : (lineup : Lineup) → IsLineup lineup → length lineup.pairs ≡ 16
  unfolding home_squares
  sixteen lineup is =
      let size : length (squares_in lineup.pairs) ≡ length lineup.pairs = length-map _ _ in
      let squares = ap length is.squares in
      omega (arith, size, squares, length-range_with_len)

  gold-next : Next 0 gold.pairs
  unfolding home_squares
  gold-next = g.squares ∙ (ap home_squares is_gold ∙ ap (range_with_len 0) (sym (sixteen gold g)))

  silver-next : Next 48 silver.pairs
  unfolding home_squares
  silver-next = s.squares ∙ (ap home_squares is_silver ∙ ap (range_with_len 48) (sym (sixteen silver s)))

  gold-low : (k : ℕ) (d : ℕ × Piece) → k < length gold.pairs → (get_or gold.pairs k d).0 < 48
  gold-low k d small =
      let size = sixteen gold g in
      let place : get_or (squares_in gold.pairs) k 0 ≡ (get_or gold.pairs k d).0 = get_or-map (λ (p : ℕ × Piece). p.0) gold.pairs k d 0 small in
      let same : get_or (squares_in gold.pairs) k 0 ≡ get_or (range_with_len 0 (length gold.pairs)) k 0 = ap (λ (xs : List ℕ). get_or xs k 0) gold-next in
      let is = get_or-range_with_len 0 (length gold.pairs) k 0 small in
      omega (arith, size, place, same, is)

  abbrev Half : Squares
  Half = with_pairs empty_board gold.pairs

  abbrev Whole : Squares
  Whole = with_pairs Half silver.pairs

  half-size : length Half ≡ 64
  half-size = length-with_pairs gold.pairs empty_board ∙ length-board_of (λ _. None)

  half-empty : (t : ℕ) → 16 ≤ t → t < 64 → at Half t ≡ None
  half-empty t low high =
      let size = sixteen gold g in
      with_pairs-other gold.pairs 0 empty_board t gold-next (inr (omega arith)) ∙ at-board_of (λ _. None) t high

  whole-size : length Whole ≡ 64
  whole-size = length-with_pairs silver.pairs Half ∙ half-size

  whole-between : (t : ℕ) → 16 ≤ t → t < 48 → at Whole t ≡ None
  whole-between t low high = with_pairs-other silver.pairs 48 Half t silver-next (inl high) ∙ half-empty t low (omega arith)

  whole-count : (p : Piece) → count_of Whole p ≤ number_of p.kind
  whole-count p =
      let gold_size = sixteen gold g in
      let silver_size = sixteen silver s in
      let empty_size = length-board_of (λ _. None) in
      let none : count_of empty_board p ≡ 0 = empty-count p in
      let first = with_pairs-count p gold.pairs 0 empty_board gold-next (omega arith) (λ t low high. at-board_of (λ _. None) t (omega arith)) in
      let half = half-size in
      let second = with_pairs-count p silver.pairs 48 Half silver-next (omega arith) (λ t low high. half-empty t (omega arith) (omega arith)) in
      let gold_army : count_by (is_one p) (army Gold) ≡ count_by (is_one p) (pieces_in gold.pairs) = ap (λ c. count_by (is_one p) (army c)) (sym is_gold) ∙ sum_by-IsPermutation (λ q. cond (is_one p q) 1 0) _ _ g.pieces in
      let silver_army : count_by (is_one p) (army Silver) ≡ count_by (is_one p) (pieces_in silver.pairs) = ap (λ c. count_by (is_one p) (army c)) (sym is_silver) ∙ sum_by-IsPermutation (λ q. cond (is_one p q) 1 0) _ _ s.pieces in
      let few = army-few p.color p.kind in
      omega (arith, none, first, second, gold_army, silver_army, few)

  -- the board after both setups is fit
  pub after_setups-fit : IsFit (board_after_setups gold silver)
  unfolding board_after_setups
  after_setups-fit = record {
    size = whole-size;
    counts = whole-count;
    settled = clear-settled Whole whole-size (whole-between 18 (omega arith) (omega arith)) (whole-between 21 (omega arith) (omega arith)) (whole-between 42 (omega arith) (omega arith)) (whole-between 45 (omega arith) (omega arith));
  }

  -- and it has each piece of both setups on its square, and no other
  pub after_setups-holds : HoldsSetups gold silver (board_after_setups gold silver)
  unfolding board_after_setups
  after_setups-holds = record {
    size = whole-size;
    gold_stands = λ k d small.
        let size = sixteen gold g in
        let whole = length-board_of (λ _. None) in
        let stands : at Half (get_or gold.pairs k d).0 ≡ Some (get_or gold.pairs k d).1 = with_pairs-stand gold.pairs 0 empty_board gold-next (omega arith) k d small in
        with_pairs-other silver.pairs 48 Half (get_or gold.pairs k d).0 silver-next (inl (gold-low k d small)) ∙ stands;
    silver_stands = (let size = sixteen silver s in let half = half-size in with_pairs-stand silver.pairs 48 Half silver-next (omega arith));
    others = whole-between;
  }
