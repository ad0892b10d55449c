-- Setups are read exactly where they are written: entries in order of square, and the rule tested on them.
use Rattle.std.proofs.Common.{◌≡◌, ℕ, zero, suc, ◌≤◌, List, [], ◌∷◌, refl, sym, ◌∙◌, ap, subst, arith, le_refl, Option, None, Some, Bool, true, false, Result, Ok, Err}
use Rattle.std.specs.Prelude.{◌↔◌, nat_le, map, if◌then◌else◌}
use Rattle.std.specs.List.{AllByRecursion}
use Rattle.std.specs.List.Sorted.{IsPermutation, IsNonDecreasingBy}
use Rattle.std.specs.Result.{result_ok}
use Rattle.std.proofs.lemmas.Bool.{and_parts, and_from}
use Rattle.std.proofs.lemmas.Bool.Decides.{nat_tests}
use Rattle.std.proofs.lemmas.List.Elements.{All-from_recursion}
use Rattle.std.proofs.lemmas.List.Sorted.{IsPermutation-refl, IsPermutation-sym, IsPermutation-trans, IsPermutation-cons, IsPermutation-middle}
use Rattle.std.proofs.lemmas.Slice.Eq.{bytes_eq-Decides}
use Rattle.arimaa_board.specs.declared.piece.Color.{Color}
use Rattle.arimaa_board.specs.declared.piece.Piece.{Piece}
use Rattle.arimaa_board.specs.Piece.{code_of}
use Rattle.arimaa_board.specs.Setup.{Lineup, IsLineup, IsSetup, squares_in, pieces_in, home_squares, army}
use Rattle.arimaa_board.proofs.Lemmas.InOrder.{Rises}
use Rattle.arimaa_board.proofs.Lemmas.SetupLaws.{same_piece, army_from_order, army_of_setup, home_of_setup}
use Rattle.arimaa_notation.specs.declared.fault.NoteFault.{NoteFault}
use Rattle.arimaa_notation.specs.Items.{items_of}
use Rattle.arimaa_notation.specs.Grammar.{IsSetupText}
use Rattle.arimaa_notation.specs.Readers.{with_element, in_order, is_lineup, lineup_of, if_setup, entries_of, setup_of_text}
use Rattle.arimaa_notation.proofs.Lemmas.Reading.{entries_back, entries_named}
use Rattle.arimaa_notation.proofs.Lemmas.SetupReading.{rule_of_lineup, same_lineup}

module _ {X : Type 0} (number : X → ℕ) where
  inserted_permutes : (x : X) (ys : List X) → IsPermutation (x ∷ ys) (with_element number x ys)
  inserted_permutes x [] = IsPermutation-refl (x ∷ [])
  inserted_permutes x (y ∷ ys) = by_test (nat_le (number x) (number y)) (inserted_permutes x ys)
    where
      by_test : (b : Bool) → IsPermutation (x ∷ ys) (with_element number x ys) → IsPermutation (x ∷ y ∷ ys) (if b then x ∷ y ∷ ys else y ∷ with_element number x ys)
      by_test true rest = IsPermutation-refl (x ∷ y ∷ ys)
      by_test false rest =
          IsPermutation-trans _ _ _ (IsPermutation-sym _ _ (IsPermutation-middle (y ∷ []) x ys)) (IsPermutation-cons y _ _ rest)

  -- a list in order has the same elements
  pub in_order_permutes : (xs : List X) → IsPermutation xs (in_order number xs)
  in_order_permutes [] = IsPermutation-refl []
  in_order_permutes (x ∷ xs) =
      IsPermutation-trans _ _ _ (IsPermutation-cons x _ _ (in_order_permutes xs)) (inserted_permutes x (in_order number xs))

  all_above : (j k : ℕ) (ys : List X) → j ≤ k → AllByRecursion (λ y. k ≤ number y) ys → AllByRecursion (λ y. j ≤ number y) ys
  all_above j k [] le all = tt
  all_above j k (y ∷ ys) le all = (omega arith, all_above j k ys le all.1)

  inserted_above : (k : ℕ) (x : X) (ys : List X) → k ≤ number x → AllByRecursion (λ y. k ≤ number y) ys → AllByRecursion (λ y. k ≤ number y) (with_element number x ys)
  inserted_above k x [] le all = (le, tt)
  inserted_above k x (y ∷ ys) le all = by_test (nat_le (number x) (number y)) (inserted_above k x ys le all.1)
    where
      by_test : (b : Bool) → AllByRecursion (λ y. k ≤ number y) (with_element number x ys) → AllByRecursion (λ y. k ≤ number y) (if b then x ∷ y ∷ ys else y ∷ with_element number x ys)
      by_test true rest = (le, all)
      by_test false rest = (all.0, rest)

  inserted_rises : (x : X) (ys : List X) → Rises number ys → Rises number (with_element number x ys)
  inserted_rises x [] up = (tt, tt)
  inserted_rises x (y ∷ ys) up = by_test (nat_le (number x) (number y)) refl (inserted_rises x ys up.1)
    where
      by_test : (b : Bool) → nat_le (number x) (number y) ≡ b → Rises number (with_element number x ys) → Rises number (if b then x ∷ y ∷ ys else y ∷ with_element number x ys)
      by_test true is rest =
          let le : number x ≤ number y = grind (arith, nat_tests) in
          ((le, all_above (number x) (number y) ys le up.0), up)
      by_test false is rest =
          let le : number y ≤ number x = grind (arith, nat_tests) in
          (inserted_above (number y) x ys le up.0, rest)

  in_order_rises : (xs : List X) → Rises number (in_order number xs)
  in_order_rises [] = tt
  in_order_rises (x ∷ xs) = inserted_rises x (in_order number xs) (in_order_rises xs)

  from_rises : (xs : List X) → Rises number xs → IsNonDecreasingBy number xs
  from_rises [] up i j d le less = absurd (omega arith)
  from_rises (x ∷ xs) up zero zero d le less = le_refl (number x)
  from_rises (x ∷ xs) up zero (suc j) d le less = All-from_recursion (λ y. number x ≤ number y) xs up.0 j d (omega arith)
  from_rises (x ∷ xs) up (suc i) zero d le less = absurd (omega arith)
  from_rises (x ∷ xs) up (suc i) (suc j) d le less = from_rises xs up.1 i j d (omega arith) (omega arith)

  pub in_order_up : (xs : List X) → IsNonDecreasingBy number (in_order number xs)
  in_order_up xs = from_rises (in_order number xs) (in_order_rises xs)

-- pieces of the same codes are the same
same_pieces : (ps qs : List Piece) → map code_of ps ≡ map code_of qs → ps ≡ qs
same_pieces [] [] e = refl
same_pieces [] (q ∷ qs) e = cc
same_pieces (p ∷ ps) [] e = cc
same_pieces (p ∷ ps) (q ∷ qs) e =
    let codes : code_of p ≡ code_of q = cc in
    let rest : map code_of ps ≡ map code_of qs = cc in
    let first : p ≡ q = same_piece p q codes in
    let others : ps ≡ qs = same_pieces ps qs rest in
    cc

-- what the test says
lineup_from_test : (color : Color) (pairs : List (ℕ × Piece)) → is_lineup color pairs ≡ true → IsLineup (record { color = color; pairs = pairs })
unfolding is_lineup
lineup_from_test color pairs is =
    let parts = and_parts _ _ is in
    let codes = (bytes_eq-Decides (map code_of (in_order code_of (pieces_in pairs))) (map code_of (army color))).0 parts.1 in
    let sorted : in_order code_of (pieces_in pairs) ≡ army color = same_pieces _ _ codes in
    let P : List Piece → Type 0 = λ ps. IsPermutation (pieces_in pairs) ps in
    record { squares = (bytes_eq-Decides (squares_in pairs) (home_squares color)).0 parts.0; pieces = subst P sorted (in_order_permutes code_of (pieces_in pairs)) }

test_from_lineup : (color : Color) (pairs : List (ℕ × Piece)) → squares_in pairs ≡ home_squares color → IsPermutation (pieces_in pairs) (army color) → is_lineup color pairs ≡ true
unfolding is_lineup
test_from_lineup color pairs home own =
    let sorted : in_order code_of (pieces_in pairs) ≡ army color = army_from_order color (in_order code_of (pieces_in pairs)) (in_order_up code_of (pieces_in pairs))
    (IsPermutation-trans _ _ _ (IsPermutation-sym _ _ (in_order_permutes code_of (pieces_in pairs))) own) in
    and_from _ _ ((bytes_eq-Decides (squares_in pairs) (home_squares color)).1 home)
    ((bytes_eq-Decides (map code_of (in_order code_of (pieces_in pairs))) (map code_of (army color))).1 (ap (map code_of) sorted))

abbrev by_square : List (ℕ × Piece) → List (ℕ × Piece)
by_square es = in_order (λ (e : ℕ × Piece). e.0) es

-- a text of a setup is read as it
pub setup_back : (bytes : List ℕ) (color : Color) (s : Lineup) → IsSetupText bytes color s → setup_of_text color bytes ≡ Some s
unfolding setup_of_text lineup_of
setup_back bytes color s h =
    let es = h.entries.0 in
    let read : entries_of (items_of bytes) ≡ Some es = ap entries_of h.entries.1.spelled ∙ entries_back es h.entries.1.on_board in
    let rule : IsSetup color es = rule_of_lineup s color es h.rule h.side h.entries.2 in
    let moved : IsPermutation es (by_square es) = in_order_permutes (λ (e : ℕ × Piece). e.0) es in
    let home : squares_in (by_square es) ≡ home_squares color = home_of_setup color es (by_square es) moved (in_order_up (λ (e : ℕ × Piece). e.0) es) rule in
    let own : IsPermutation (pieces_in (by_square es)) (army color) = army_of_setup color es (by_square es) moved rule in
    let passes : is_lineup color (by_square es) ≡ true = test_from_lineup color (by_square es) home own in
    let same : record { color = color; pairs = by_square es } ≡ s = same_lineup (record { color = color; pairs = by_square es }) s es (record { squares = home; pieces = own }) h.rule (sym h.side) moved h.entries.2 in
    ap (if_setup color) read ∙ rw passes (ap Some same)

-- what is read as a setup is a text of it
pub setup_named : (bytes : List ℕ) (color : Color) (s : Lineup) → setup_of_text color bytes ≡ Some s → IsSetupText bytes color s
unfolding setup_of_text lineup_of
setup_named bytes color s is = by_entries (entries_of (items_of bytes)) refl is
  where
    by_test : (es : List (ℕ × Piece)) (b : Bool) → entries_of (items_of bytes) ≡ Some es → is_lineup color (by_square es) ≡ b
        → (if b then Some (record { color = color; pairs = by_square es }) else None) ≡ Some s → IsSetupText bytes color s
    by_test es true read passes e =
        let same : record { color = color; pairs = by_square es } ≡ s = cc in
        let P : Lineup → Type 0 = λ s. IsSetupText bytes color s in
        subst P same
        (record { entries = (es, entries_named (items_of bytes) es read, in_order_permutes (λ (e : ℕ × Piece). e.0) es); side = refl; rule = lineup_from_test color (by_square es) passes })
    by_test es false read passes e = cc

    by_entries : (r : Option (List (ℕ × Piece))) → entries_of (items_of bytes) ≡ r → if_setup color r ≡ Some s → IsSetupText bytes color s
    by_entries None read e = cc
    by_entries (Some es) read e = by_test es (is_lineup color (by_square es)) read refl e

-- the answer of the reader is the setup of the text
pub setup_read : (bytes : List ℕ) (color : Color) (r : Result Lineup NoteFault) → ((s : Lineup) → (r ≡ Ok s) ↔ IsSetupText bytes color s) → result_ok r ≡ setup_of_text color bytes
setup_read bytes color (Ok s) reads = sym (setup_back bytes color s ((reads s).0 refl))
setup_read bytes color (Err e) reads = by_answer (setup_of_text color bytes) refl
  where
    by_answer : (r : Option Lineup) → setup_of_text color bytes ≡ r → None ≡ r
    by_answer None is = refl
    by_answer (Some s) is = let other : ◌≡◌ {A = Result Lineup NoteFault} (Err e) (Ok s) = (reads s).1 (setup_named bytes color s is) in cc
