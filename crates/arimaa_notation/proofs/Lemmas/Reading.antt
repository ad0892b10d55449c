-- Steps, marks and entries are read exactly where they are written, and so are turns.
use Rattle.std.proofs.Common.{◌≡◌, ℕ, ◌+◌, ◌-◌, ◌*◌, ◌<◌, ◌≤◌, List, [], ◌∷◌, ◌++◌, length, refl, sym, ◌∙◌, ap, subst, arith, Option, None, Some, Bool, true, false, eqb-true, cond, Result, Ok, Err}
use Rattle.std.specs.Prelude.{◌==◌, ◌&&◌, ◌↔◌, nat_le, nat_lt, IfSome, if◌then◌else◌}
use Rattle.std.specs.List.{AllByRecursion, find}
use Rattle.std.specs.Result.{result_ok}
use Rattle.std.proofs.lemmas.Bool.Decides.{nat_tests}
use Rattle.arimaa_board.specs.declared.piece.Piece.{Piece}
use Rattle.arimaa_board.specs.declared.position.Step.{Step}
use Rattle.arimaa_board.specs.declared.square.Dir.{Dir}
use Rattle.arimaa_board.specs.declared.square.Dir.TheVariants.{North, East, South, West}
use Rattle.arimaa_board.specs.declared.turn.NotedStep.{NotedStep}
use Rattle.arimaa_board.specs.Piece.{letter_of, piece_of_letter}
use Rattle.arimaa_board.specs.Square.{directions}
use Rattle.arimaa_board.proofs.Lemmas.TextLaws.{piece_of_letter-letter_of_content}
use Rattle.arimaa_notation.specs.declared.fault.NoteFault.{NoteFault}
use Rattle.arimaa_notation.specs.Items.{items_of}
use Rattle.arimaa_notation.specs.Written.{column_of, row_of, letter_of_dir, text_of_step, text_of_mark, text_of_entry, items_of_mark, items_of_turn, items_of_entries}
use Rattle.arimaa_notation.specs.Grammar.{IsOnBoard, AreSteps, IsTurnText, AreEntries}
use Rattle.arimaa_notation.specs.Readers.{square_of, dir_of_letter, step_of_parts, step_of, mark_of_parts, mark_of, entry_of_parts, entry_of, before_steps, with_next, steps_of, if_turn, turn_of_text, before_entries, entries_of}
use Rattle.arimaa_notation.proofs.LetterLaws.{letter_some, step_no_mark}

-- a square is read from its column and row
square_back : (s : ℕ) → s < 64 → square_of (column_of s) (row_of s) ≡ Some s
square_back s on =
    let inside : (nat_le 97 (column_of s) && nat_le (column_of s) 104 && (nat_le 49 (row_of s) && nat_le (row_of s) 56)) ≡ true = grind (arith, nat_tests) in
    let number : (column_of s - 97) + 8 * (row_of s - 49) ≡ s = omega arith in
    rw inside (ap Some number)

-- what is read as a square is its column and row
record IsNamed (column row s : ℕ) : Type 0 where
  on : s < 64
  columns : column ≡ column_of s
  rows : row ≡ row_of s

square_named : (column row s : ℕ) → square_of column row ≡ Some s → IsNamed column row s
square_named column row s is = by_test (nat_le 97 column && nat_le column 104 && (nat_le 49 row && nat_le row 56)) refl is
  where
    by_test : (b : Bool) → (nat_le 97 column && nat_le column 104 && (nat_le 49 row && nat_le row 56)) ≡ b → (if b then Some ((column - 97) + 8 * (row - 49)) else None) ≡ Some s → IsNamed column row s
    by_test true inside e =
        let number : (column - 97) + 8 * (row - 49) ≡ s = cc in
        let columns : (97 ≤ column) × (column ≤ 104) = grind (arith, nat_tests) in
        let rows : (49 ≤ row) × (row ≤ 56) = grind (arith, nat_tests) in
        record { on = omega arith; columns = omega arith; rows = omega arith }
    by_test false inside e = cc

-- what is found passes the test
found : {X : Type 0} (t : X → Bool) (xs : List X) → IfSome (find t xs) (λ x. t x ≡ true)
found t [] = tt
found t (x ∷ xs) = elim (t x) as (λ v. (t x ≡ v) → IfSome (cond v (Some x) (find t xs)) (λ y. t y ≡ true)) [ true ↦ λ e. e | false ↦ λ _. found t xs ] refl

dir_back : (d : Dir) → dir_of_letter (letter_of_dir d) ≡ Some d
dir_back North = refl
dir_back East = refl
dir_back South = refl
dir_back West = refl

dir_named : (b : ℕ) (d : Dir) → dir_of_letter b ≡ Some d → b ≡ letter_of_dir d
dir_named b d is = let P : Option Dir → Type 0 = λ r. IfSome r (λ d. (letter_of_dir d == b) ≡ true) in sym (eqb-true _ _ (subst P is (found (λ d. letter_of_dir d == b) directions)))

piece_back : (p : Piece) → piece_of_letter (letter_of p) ≡ Some p
piece_back p = piece_of_letter-letter_of_content (Some p)

piece_named : (b : ℕ) (p : Piece) → piece_of_letter b ≡ Some p → b ≡ letter_of p
piece_named b p is = let P : Option Piece → Type 0 = λ r. IfSome r (λ p. b ≡ letter_of p) in subst P is (letter_some b)

-- a step is read from its text, and only from it
pub step_back : (s : Step) → s.from < 64 → step_of (text_of_step s) ≡ Some s
step_back s on = rw (piece_back s.piece, square_back s.from on, dir_back s.dir) refl

step_named : (item : List ℕ) (s : Step) → step_of item ≡ Some s → (item ≡ text_of_step s) × (s.from < 64)
step_named [] s is = cc
step_named (a ∷ []) s is = cc
step_named (a ∷ b ∷ []) s is = cc
step_named (a ∷ b ∷ c ∷ []) s is = cc
step_named (a ∷ b ∷ c ∷ d ∷ []) s is = by_parts (piece_of_letter a) (square_of b c) (dir_of_letter d) refl refl refl is
  where
    by_parts : (p : Option Piece) (q : Option ℕ) (r : Option Dir) → piece_of_letter a ≡ p → square_of b c ≡ q → dir_of_letter d ≡ r → step_of_parts p q r ≡ Some s → (a ∷ b ∷ c ∷ d ∷ [] ≡ text_of_step s) × (s.from < 64)
    by_parts (Some p) (Some q) (Some r) piece square dir e =
        let step : record { piece = p; from = q; dir = r } ≡ s = cc in
        let P : Step → Type 0 = λ s. (a ∷ b ∷ c ∷ d ∷ [] ≡ text_of_step s) × (s.from < 64) in
        let first = piece_named a p piece in
        let name = square_named b c q square in
        let last = dir_named d r dir in
        let two = name.columns in
        let three = name.rows in
        let whole : a ∷ b ∷ c ∷ d ∷ [] ≡ text_of_step (record { piece = p; from = q; dir = r }) = cc in
        subst P step (whole, name.on)
    by_parts None q r piece square dir e = cc
    by_parts (Some p) None r piece square dir e = cc
    by_parts (Some p) (Some q) None piece square dir e = cc
step_named (a ∷ b ∷ c ∷ d ∷ e ∷ es) s is = cc

-- a mark is read from its text, and only from it
pub mark_back : (m : Piece × ℕ) → m.1 < 64 → mark_of (text_of_mark m) ≡ Some m
mark_back m on = rw (piece_back m.0, square_back m.1 on) refl

mark_named : (item : List ℕ) (m : Piece × ℕ) → mark_of item ≡ Some m → (item ≡ text_of_mark m) × (m.1 < 64)
mark_named [] m is = cc
mark_named (a ∷ []) m is = cc
mark_named (a ∷ b ∷ []) m is = cc
mark_named (a ∷ b ∷ c ∷ []) m is = cc
mark_named (a ∷ b ∷ c ∷ d ∷ []) m is = by_parts (piece_of_letter a) (square_of b c) (d == 120) refl refl refl is
  where
    by_parts : (p : Option Piece) (q : Option ℕ) (r : Bool) → piece_of_letter a ≡ p → square_of b c ≡ q → (d == 120) ≡ r → mark_of_parts p q r ≡ Some m → (a ∷ b ∷ c ∷ d ∷ [] ≡ text_of_mark m) × (m.1 < 64)
    by_parts (Some p) (Some q) true piece square cross e =
        let mark : (p, q) ≡ m = cc in
        let P : Piece × ℕ → Type 0 = λ m. (a ∷ b ∷ c ∷ d ∷ [] ≡ text_of_mark m) × (m.1 < 64) in
        let first = piece_named a p piece in
        let name = square_named b c q square in
        let two = name.columns in
        let three = name.rows in
        let last : d ≡ 120 = eqb-true d 120 cross in
        let whole : a ∷ b ∷ c ∷ d ∷ [] ≡ text_of_mark (p, q) = cc in
        subst P mark (whole, name.on)
    by_parts None q r piece square cross e = cc
    by_parts (Some p) None r piece square cross e = cc
    by_parts (Some p) (Some q) false piece square cross e = cc
mark_named (a ∷ b ∷ c ∷ d ∷ e ∷ es) m is = cc

-- no step is read as a mark
no_mark : (s : Step) → mark_of (text_of_step s) ≡ None
no_mark s = by_answer (mark_of (text_of_step s)) refl
  where
    by_answer : (r : Option (Piece × ℕ)) → mark_of (text_of_step s) ≡ r → r ≡ None
    by_answer None is = refl
    by_answer (Some m) is = absurd (step_no_mark s m (mark_named (text_of_step s) m is).0)

-- an entry is read from its text, and only from it
entry_back : (e : ℕ × Piece) → e.0 < 64 → entry_of (text_of_entry e) ≡ Some e
entry_back e on = rw (piece_back e.1, square_back e.0 on) refl

entry_named : (item : List ℕ) (e : ℕ × Piece) → entry_of item ≡ Some e → (item ≡ text_of_entry e) × (e.0 < 64)
entry_named [] m is = cc
entry_named (a ∷ []) m is = cc
entry_named (a ∷ b ∷ []) m is = cc
entry_named (a ∷ b ∷ c ∷ []) m is = by_parts (piece_of_letter a) (square_of b c) refl refl is
  where
    by_parts : (p : Option Piece) (q : Option ℕ) → piece_of_letter a ≡ p → square_of b c ≡ q → entry_of_parts p q ≡ Some m → (a ∷ b ∷ c ∷ [] ≡ text_of_entry m) × (m.0 < 64)
    by_parts (Some p) (Some q) piece square e =
        let entry : (q, p) ≡ m = cc in
        let P : ℕ × Piece → Type 0 = λ m. (a ∷ b ∷ c ∷ [] ≡ text_of_entry m) × (m.0 < 64) in
        let first = piece_named a p piece in
        let name = square_named b c q square in
        let two = name.columns in
        let three = name.rows in
        let whole : a ∷ b ∷ c ∷ [] ≡ text_of_entry (q, p) = cc in
        subst P entry (whole, name.on)
    by_parts None q piece square e = cc
    by_parts (Some p) None piece square e = cc
entry_named (a ∷ b ∷ c ∷ d ∷ es) m is = cc

-- a step without a mark before other steps
unmarked_back : (s : Step) (ns : List NotedStep) → s.from < 64 → steps_of (items_of_turn ns) ≡ Some ns → steps_of (text_of_step s ∷ items_of_turn ns) ≡ Some (record { step = s; mark = None } ∷ ns)
unmarked_back s [] from rest = rw (step_back s from) refl
unmarked_back s (n ∷ ns) from rest = rw (step_back s from, no_mark n.step, rest) refl

-- the items of steps and marks are read as them
steps_back : (ns : List NotedStep) → AllByRecursion IsOnBoard ns → steps_of (items_of_turn ns) ≡ Some ns
steps_back [] on = refl
steps_back (n ∷ ns) on = by_mark n.step n.mark on.0.0 on.0.1 (steps_back ns on.1)
  where
    by_mark : (s : Step) (m : Option (Piece × ℕ)) → s.from < 64 → IfSome m (λ x. x.1 < 64) → steps_of (items_of_turn ns) ≡ Some ns → steps_of (text_of_step s ∷ (items_of_mark m ++ items_of_turn ns)) ≡ Some (record { step = s; mark = m } ∷ ns)
    by_mark s None from mark rest = unmarked_back s ns from rest
    by_mark s (Some m) from mark rest = rw (step_back s from, mark_back m mark, rest) refl

-- one more step with its mark, where what follows is read so
one_more : (item : List ℕ) (o : Option Step) (mark : Option (Piece × ℕ)) (r : Option (List NotedStep)) (items : List (List ℕ)) (ns : List NotedStep) → step_of item ≡ o → IfSome mark (λ m. m.1 < 64)
    → ((ms : List NotedStep) → r ≡ Some ms → AreSteps items ms) → before_steps o mark r ≡ Some ns → AreSteps (item ∷ (items_of_mark mark ++ items)) ns
one_more item None mark r items ns step on rest is = cc
one_more item (Some s) mark None items ns step on rest is = cc
one_more item (Some s) mark (Some ms) items ns step on rest is =
    let here : record { step = s; mark = mark } ∷ ms ≡ ns = cc in
    let name = step_named item s step in
    let more = rest ms refl in
    let P : List NotedStep → Type 0 = λ ns. AreSteps (item ∷ (items_of_mark mark ++ items)) ns in
    subst P here (record { spelled = ap (λ x. x ∷ (items_of_mark mark ++ items)) name.0 ∙ ap (λ x. text_of_step s ∷ (items_of_mark mark ++ x)) more.spelled; on_board = ((name.1, on), more.on_board) })

no_steps : (ns : List NotedStep) → Some [] ≡ Some ns → AreSteps [] ns
no_steps ns is = let none : [] ≡ ns = cc in let P : List NotedStep → Type 0 = λ ns. AreSteps [] ns in subst P none (record { spelled = refl; on_board = tt })

-- what is read as steps is the items of those steps
steps_named : (items : List (List ℕ)) (ns : List NotedStep) → steps_of items ≡ Some ns → AreSteps items ns
steps_named [] ns is = no_steps ns is
steps_named (item ∷ []) ns is = one_more item (step_of item) None (Some []) [] ns refl tt no_steps is
steps_named (item ∷ next ∷ items) ns is = by_mark (mark_of next) refl (λ ms e. steps_named items ms e) (λ ms e. steps_named (next ∷ items) ms e) is
  where
    by_mark : (m : Option (Piece × ℕ)) → mark_of next ≡ m → ((ms : List NotedStep) → steps_of items ≡ Some ms → AreSteps items ms)
        → ((ms : List NotedStep) → steps_of (next ∷ items) ≡ Some ms → AreSteps (next ∷ items) ms) → with_next (step_of item) m (steps_of items) (steps_of (next ∷ items)) ≡ Some ns → AreSteps (item ∷ next ∷ items) ns
    by_mark None e after from is = one_more item (step_of item) None (steps_of (next ∷ items)) (next ∷ items) ns refl tt from is
    by_mark (Some m) e after from is =
        let name = mark_named next m e in
        let P : List ℕ → Type 0 = λ x. AreSteps (item ∷ x ∷ items) ns in
        subst P (sym name.0) (one_more item (step_of item) (Some m) (steps_of items) items ns refl name.1 after is)

-- a text without items is no turn
pub no_turn : (bytes : List ℕ) → items_of bytes ≡ [] → turn_of_text bytes ≡ None
unfolding turn_of_text
no_turn bytes none = ap (λ items. if_turn (steps_of items)) none

-- a text of a turn is read as it
pub turn_back : (bytes : List ℕ) (t : List NotedStep) → IsTurnText bytes t → turn_of_text bytes ≡ Some t
unfolding turn_of_text
turn_back bytes t h =
    let read : steps_of (items_of bytes) ≡ Some t = ap steps_of h.steps.spelled ∙ steps_back t h.steps.on_board in
    let some = h.some in
    let few = h.few in
    let within : (nat_lt 0 (length t) && nat_le (length t) 4) ≡ true = grind (arith, nat_tests) in
    rw (read, within) refl

-- what is read as a turn is a text of it
pub turn_named : (bytes : List ℕ) (t : List NotedStep) → turn_of_text bytes ≡ Some t → IsTurnText bytes t
unfolding turn_of_text
turn_named bytes t is = by_steps (steps_of (items_of bytes)) refl is
  where
    by_test : (ns : List NotedStep) (b : Bool) → steps_of (items_of bytes) ≡ Some ns → (nat_lt 0 (length ns) && nat_le (length ns) 4) ≡ b → (if b then Some ns else None) ≡ Some t → IsTurnText bytes t
    by_test ns true read within e =
        let same : ns ≡ t = cc in
        let some : 0 < length ns = grind (arith, nat_tests) in
        let few : length ns ≤ 4 = grind (arith, nat_tests) in
        let P : List NotedStep → Type 0 = λ t. IsTurnText bytes t in
        subst P same (record { steps = steps_named (items_of bytes) ns read; some = some; few = few })
    by_test ns false read within e = cc

    by_steps : (r : Option (List NotedStep)) → steps_of (items_of bytes) ≡ r → if_turn r ≡ Some t → IsTurnText bytes t
    by_steps None read e = cc
    by_steps (Some ns) read e = by_test ns (nat_lt 0 (length ns) && nat_le (length ns) 4) read refl e

-- the answer of the reader is the turn of the text
pub turn_read : (bytes : List ℕ) (r : Result (List NotedStep) NoteFault) → ((t : List NotedStep) → (r ≡ Ok t) ↔ IsTurnText bytes t) → result_ok r ≡ turn_of_text bytes
turn_read bytes (Ok t) reads = sym (turn_back bytes t ((reads t).0 refl))
turn_read bytes (Err e) reads = by_answer (turn_of_text bytes) refl
  where
    by_answer : (r : Option (List NotedStep)) → turn_of_text bytes ≡ r → None ≡ r
    by_answer None is = refl
    by_answer (Some t) is = let other : ◌≡◌ {A = Result (List NotedStep) NoteFault} (Err e) (Ok t) = (reads t).1 (turn_named bytes t is) in cc

-- the items of entries are read as them
pub entries_back : (es : List (ℕ × Piece)) → AllByRecursion (λ e. e.0 < 64) es → entries_of (items_of_entries es) ≡ Some es
entries_back [] on = refl
entries_back (e ∷ es) on = rw (entry_back e on.0, entries_back es on.1) refl

-- what is read as entries is the items of those entries
pub entries_named : (items : List (List ℕ)) (es : List (ℕ × Piece)) → entries_of items ≡ Some es → AreEntries items es
entries_named [] es is = let none : [] ≡ es = cc in let P : List (ℕ × Piece) → Type 0 = λ es. AreEntries [] es in subst P none (record { spelled = refl; on_board = tt })
entries_named (item ∷ items) es is = by_parts (entry_of item) (entries_of items) refl refl (λ ds e. entries_named items ds e) is
  where
    by_parts : (o : Option (ℕ × Piece)) (r : Option (List (ℕ × Piece))) → entry_of item ≡ o → entries_of items ≡ r → ((ds : List (ℕ × Piece)) → entries_of items ≡ Some ds → AreEntries items ds) → before_entries o r ≡ Some es → AreEntries (item ∷ items) es
    by_parts None r entry rest all e = cc
    by_parts (Some d) None entry rest all e = cc
    by_parts (Some d) (Some ds) entry rest all e =
        let here : d ∷ ds ≡ es = cc in
        let name = entry_named item d entry in
        let more = all ds rest in
        let P : List (ℕ × Piece) → Type 0 = λ es. AreEntries (item ∷ items) es in
        subst P here (record { spelled = ap (λ x. x ∷ items) name.0 ∙ ap (λ x. text_of_entry d ∷ x) more.spelled; on_board = (name.1, more.on_board) })
