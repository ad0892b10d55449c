-- Reading a setup: what holds in its midst, and that a text has one reading.
use Rattle.std.proofs.Common.{◌≡◌, ℕ, zero, suc, ◌+◌, ◌-◌, ◌*◌, ◌<◌, ◌≤◌, List, [], ◌∷◌, ◌++◌, length, take, get_or, refl, sym, ◌∙◌, ap, subst, arith, append_assoc, length-append, take_all, ⊎_elim, Result, Ok, Err}
use Rattle.std.specs.Prelude.{slice_set}
use Rattle.std.specs.List.{AllByRecursion}
use Rattle.std.specs.List.Sorted.{IsPermutation, IsNonDecreasingBy}
use Rattle.std.proofs.lemmas.Bool.{cases_lt}
use Rattle.std.proofs.lemmas.List.{map-append, take-map, length-map, take_more_set, length-set, get_or-map, append-nil}
use Rattle.std.proofs.lemmas.List.Sorted.{IsPermutation-sym, IsPermutation-trans}
use Rattle.std.proofs.Math.Seq.{take-append_seam}
use Rattle.arimaa_board.specs.declared.piece.Color.{Color}
use Rattle.arimaa_board.specs.declared.piece.Color.TheVariants.{Gold, Silver}
use Rattle.arimaa_board.specs.declared.piece.Kind.{Kind}
use Rattle.arimaa_board.specs.declared.piece.Kind.TheVariants.{Rabbit, Cat, Dog, Horse, Camel, Elephant}
use Rattle.arimaa_board.specs.declared.piece.Piece.{Piece}
use Rattle.arimaa_board.specs.Piece.{code_of, piece_of}
use Rattle.arimaa_board.specs.Setup.{Lineup, IsLineup, IsSetup, squares_in, pieces_in, home_squares, first_home, army}
use Rattle.arimaa_board.proofs.Lemmas.InOrder.{same_in_order, rises}
use Rattle.arimaa_board.proofs.Lemmas.SetupLaws.{same_piece, home_place, setup_from_order, size_of_setup, army_of_setup}
use Rattle.arimaa_notation.specs.declared.fault.NoteFault.{NoteFault}
use Rattle.arimaa_notation.specs.declared.fault.NoteFault.TheVariants.{Token, Steps, Setup}
use Rattle.arimaa_notation.specs.Items.{items_of}
use Rattle.arimaa_notation.specs.Written.{text_of_entry, items_of_entries}
use Rattle.arimaa_notation.specs.Grammar.{AreEntries, IsFirstBadEntry, AreNoSetup, IsSetupReading}
use Rattle.arimaa_notation.proofs.LetterLaws.{same_entry}
use Rattle.arimaa_notation.proofs.Lemmas.WrittenLaws.{size-lineup}
use Rattle.arimaa_notation.proofs.Lemmas.TurnReading.{take_front_one, take_less}

abbrev Entry : Type 0
Entry = ℕ × Piece

-- these entries have been read, and this text is left
pub record Midst (bytes text : List ℕ) (es entries : List (ℕ × Piece)) (count : ℕ) : Type 0 where
  pub items : items_of bytes ≡ items_of_entries es ++ items_of text
  pub on_board : AllByRecursion (λ e. e.0 < 64) es
  pub room : length entries ≡ 16
  pub kept : count ≤ 16 → take count entries ≡ es
  pub numbered : count ≡ length es
  pub fits : count + length text ≤ length bytes

size-entries : (es : List Entry) → length (items_of_entries es) ≡ length es
size-entries es = length-map es text_of_entry

-- no two lists of entries have the same items
same_entries : (ds es : List Entry) → items_of_entries ds ≡ items_of_entries es → ds ≡ es
same_entries [] [] h = refl
same_entries [] (e ∷ es) h = cc
same_entries (d ∷ ds) [] h = cc
same_entries (d ∷ ds) (e ∷ es) h =
    let texts : text_of_entry d ≡ text_of_entry e = first_same h in
    let first : d ≡ e = same_entry d e texts in
    let rest : ds ≡ es = same_entries ds es (rest_same h) in
    cc
  where
    first_same : {x y : List ℕ} {xs ys : List (List ℕ)} → x ∷ xs ≡ y ∷ ys → x ≡ y
    first_same h = cc

    rest_same : {x y : List ℕ} {xs ys : List (List ℕ)} → x ∷ xs ≡ y ∷ ys → xs ≡ ys
    rest_same h = cc

all_push : (es : List Entry) (e : Entry) → AllByRecursion (λ x. x.0 < 64) es → e.0 < 64 → AllByRecursion (λ x. x.0 < 64) (es ++ e ∷ [])
all_push [] e all one = (one, tt)
all_push (d ∷ es) e all one = (all.0, all_push es e all.1 one)

-- the squares of the first entries are on the board
pub all_take : (k : ℕ) (es : List Entry) → AllByRecursion (λ x. x.0 < 64) es → AllByRecursion (λ x. x.0 < 64) (take k es)
all_take zero es all = tt
all_take (suc k) [] all = tt
all_take (suc k) (e ∷ es) all = (all.0, all_take k es all.1)

-- an entry that is not one: the last of these items
no_entry_last : (item : List ℕ) (es ds : List Entry) → ((e : Entry) → e.0 < 64 → item ≡ text_of_entry e → ⊥) → AllByRecursion (λ x. x.0 < 64) ds → items_of_entries es ++ item ∷ [] ≡ items_of_entries ds → ⊥
no_entry_last item [] [] none all h = cc
no_entry_last item [] (d ∷ ds) none all h = let here : item ≡ text_of_entry d = cc in none d all.0 here
no_entry_last item (e ∷ es) [] none all h = cc
no_entry_last item (e ∷ es) (d ∷ ds) none all h = let rest : items_of_entries es ++ item ∷ [] ≡ items_of_entries ds = cc in no_entry_last item es ds none all.1 rest

pub midst-fault : (bytes text : List ℕ) (es entries : List (ℕ × Piece)) (count : ℕ) (item : List ℕ) (rest : List (List ℕ)) → Midst bytes text es entries count → items_of text ≡ item ∷ rest
    → ((e : ℕ × Piece) → e.0 < 64 → item ≡ text_of_entry e → ⊥) → IsFirstBadEntry (items_of bytes) (count + 1)
midst-fault bytes text es entries count item rest h next none =
    let all : items_of bytes ≡ items_of_entries es ++ item ∷ rest = h.items ∙ ap (λ x. items_of_entries es ++ x) next in
    let place : count + 1 - 1 ≡ length (items_of_entries es) = omega (arith, h.numbered, size-entries es) in
    let more : count + 1 ≡ suc (length (items_of_entries es)) = omega (arith, h.numbered, size-entries es) in
    let front : take (count + 1 - 1) (items_of bytes) ≡ items_of_entries es = ap (λ k. take k (items_of bytes)) place ∙ (ap (take (length (items_of_entries es))) all ∙ take-append_seam (items_of_entries es) (item ∷ rest)) in
    let front_one : take (count + 1) (items_of bytes) ≡ items_of_entries es ++ item ∷ [] = ap (λ k. take k (items_of bytes)) more ∙ (ap (take (suc (length (items_of_entries es)))) all ∙ take_front_one (items_of_entries es) item rest) in
    record {
      before = (es, record { spelled = front; on_board = h.on_board });
      bad = λ ds g. no_entry_last item es ds none g.on_board (sym front_one ∙ g.spelled);
    }

pub midst-more : (bytes text item after : List ℕ) (es entries more : List (ℕ × Piece)) (count : ℕ) (e : ℕ × Piece) → Midst bytes text es entries count → items_of text ≡ item ∷ items_of after
    → 1 + length after ≤ length text → item ≡ text_of_entry e → e.0 < 64 → more ≡ slice_set entries count e → Midst bytes after (es ++ e ∷ []) more (count + 1)
midst-more bytes text item after es entries more count e h next shorter is square set_is =
    let regrouped : items_of_entries es ++ text_of_entry e ∷ items_of after ≡ items_of_entries (es ++ e ∷ []) ++ items_of after =
    sym (append_assoc (items_of_entries es) (text_of_entry e ∷ []) (items_of after)) ∙ ap (λ x. x ++ items_of after) (sym (map-append text_of_entry es (e ∷ []))) in
    record {
      items = h.items ∙ (ap (λ x. items_of_entries es ++ x) (next ∙ ap (λ x. x ∷ items_of after) is) ∙ regrouped);
      on_board = all_push es e h.on_board square;
      room = ap length set_is ∙ (length-set entries count e ∙ h.room);
      kept = λ few. ap (take (count + 1)) set_is ∙ (take_more_set entries count e (omega (arith, h.room)) ∙ ap (λ x. x ++ e ∷ []) (h.kept (omega arith)));
      numbered = omega (arith, h.numbered, length-append es (e ∷ []));
      fits = omega (arith, h.fits);
    }

all_read : (bytes text : List ℕ) (es entries : List (ℕ × Piece)) (count : ℕ) → Midst bytes text es entries count → items_of text ≡ [] → AreEntries (items_of bytes) es
all_read bytes text es entries count h none =
    record { spelled = h.items ∙ (ap (λ x. items_of_entries es ++ x) none ∙ append-nil (items_of_entries es)); on_board = h.on_board }

-- sixteen entries fill the room
all_kept : (bytes text : List ℕ) (es entries : List (ℕ × Piece)) (count : ℕ) → Midst bytes text es entries count → count ≡ 16 → entries ≡ es
all_kept bytes text es entries count h full = sym (take_all count entries (omega (arith, h.room))) ∙ h.kept (omega arith)

-- a setup that was made of these entries is what they are read as
pub midst-made : (bytes text : List ℕ) (es entries : List (ℕ × Piece)) (count : ℕ) (color : Color) (s : Lineup) → Midst bytes text es entries count → items_of text ≡ [] → count ≡ 16
    → IsSetup color entries → s.color ≡ color → IsPermutation entries s.pairs → squares_in s.pairs ≡ home_squares color → IsSetupReading (items_of bytes) color (Ok s)
midst-made bytes text es entries count color s h none full rule side same order =
    let P : List (ℕ × Piece) → Type 0 = λ x. IsPermutation x s.pairs in
    let Q : Color → Type 0 = λ c. IsPermutation (pieces_in s.pairs) (army c) in
    let own : IsPermutation (pieces_in s.pairs) (army color) = army_of_setup color entries s.pairs same rule in (
      (es, all_read bytes text es entries count h none, subst P (all_kept bytes text es entries count h full) same),
      side,
      record { squares = order ∙ ap home_squares (sym side); pieces = subst Q (sym side) own },
    )

pub midst-refused : (bytes text : List ℕ) (es entries : List (ℕ × Piece)) (count : ℕ) (color : Color) → Midst bytes text es entries count → items_of text ≡ []
    → (count ≡ 16 → IsSetup color entries → ⊥) → AreNoSetup (items_of bytes) color
midst-refused bytes text es entries count color h none no_setup =
    let P : List (ℕ × Piece) → Type 0 = IsSetup color in (
      es,
      all_read bytes text es entries count h none,
      λ rule. let full : count ≡ 16 = omega (arith, h.numbered, size_of_setup color es rule) in no_setup full (subst P (sym (all_kept bytes text es entries count h full)) rule),
    )

-- pieces of a code and a square as one number, by which pairs stand in order
abbrev key : Entry → ℕ
key e = 16 * e.0 + code_of e.1

code_below : (c : Color) (k : Kind) → code_of (piece_of c k) < 16
code_below Gold Rabbit = omega arith
code_below Gold Cat = omega arith
code_below Gold Dog = omega arith
code_below Gold Horse = omega arith
code_below Gold Camel = omega arith
code_below Gold Elephant = omega arith
code_below Silver Rabbit = omega arith
code_below Silver Cat = omega arith
code_below Silver Dog = omega arith
code_below Silver Horse = omega arith
code_below Silver Camel = omega arith
code_below Silver Elephant = omega arith

code_small : (p : Piece) → code_of p < 16
code_small p = code_below p.color p.kind

same_key : (d e : Entry) → key d ≡ key e → d ≡ e
same_key d e h =
    let small : code_of d.1 < 16 = code_small d.1 in
    let other : code_of e.1 < 16 = code_small e.1 in
    let square : d.0 ≡ e.0 = omega (arith, h, small, other) in
    let piece : d.1 ≡ e.1 = same_piece d.1 e.1 (omega (arith, h, square)) in
    λ i. (square i, piece i)

keys_rise : (pairs : List Entry) (c : Color) → squares_in pairs ≡ home_squares c → length pairs ≡ 16 → IsNonDecreasingBy key pairs
keys_rise pairs c order size =
    λ (i j : ℕ) (d : Entry) (le : i ≤ j) (less : j < length pairs).
    let first : (get_or pairs i d).0 ≡ first_home c + i = sym (get_or-map (λ (p : Entry). p.0) pairs i d 0 (omega arith)) ∙ home_place c (squares_in pairs) i order (omega arith) in
    let second : (get_or pairs j d).0 ≡ first_home c + j = sym (get_or-map (λ (p : Entry). p.0) pairs j d 0 less) ∙ home_place c (squares_in pairs) j order (omega arith) in
    let small : code_of (get_or pairs i d).1 < 16 = code_small (get_or pairs i d).1 in
    ⊎_elim
    (λ (before : i < j). omega (arith, first, second, small, before))
    (λ after. let same : i ≡ j = omega arith in omega (arith, ap (λ k. key (get_or pairs k d)) same))
    (cases_lt i j)

-- the same entries in order of square are the same
pub same_lineup : (s t : Lineup) (es : List Entry) → IsLineup s → IsLineup t → s.color ≡ t.color → IsPermutation es s.pairs → IsPermutation es t.pairs → s ≡ t
same_lineup s t es in_s in_t color to_s to_t =
    let order : squares_in t.pairs ≡ home_squares s.color = in_t.squares ∙ ap home_squares (sym color) in
    let pairs : s.pairs ≡ t.pairs = same_in_order key same_key s.pairs t.pairs
    (keys_rise s.pairs s.color in_s.squares (size-lineup s in_s))
    (rises key t.pairs (keys_rise t.pairs s.color order (size-lineup t in_t)))
    (IsPermutation-trans _ _ _ (IsPermutation-sym _ _ to_s) to_t) in
    λ i. record { color = color i; pairs = pairs i }

pub rule_of_lineup : (s : Lineup) (color : Color) (es : List Entry) → IsLineup s → s.color ≡ color → IsPermutation es s.pairs → IsSetup color es
rule_of_lineup s color es h side same =
    let P : Color → Type 0 = λ c. IsSetup c es in
    subst P side (setup_from_order s.color es s.pairs same h.squares h.pieces)

-- each front of entries is entries
reads_apart : (items : List (List ℕ)) (es : List Entry) (number : ℕ) → AreEntries items es → IsFirstBadEntry items number → ⊥
reads_apart items es number h bad =
    bad.bad (take number es) (record { spelled = ap (take number) h.spelled ∙ take-map text_of_entry number es; on_board = all_take number es h.on_board })

not_before : (items : List (List ℕ)) (m n : ℕ) → IsFirstBadEntry items m → IsFirstBadEntry items n → m < n → ⊥
not_before items m n early late less =
    let before = late.before in
    let same : take m items ≡ take m (items_of_entries before.0) = sym (take_less items m (n - 1) (omega arith)) ∙ ap (take m) before.1.spelled in
    early.bad (take m before.0) (record { spelled = same ∙ take-map text_of_entry m before.0; on_board = all_take m before.0 before.1.on_board })

same_number : (items : List (List ℕ)) (m n : ℕ) → IsFirstBadEntry items m → IsFirstBadEntry items n → m ≡ n
same_number items m n a b =
    ⊎_elim (λ (less : m < n). absurd (not_before items m n a b less))
    (λ more. ⊎_elim (λ (less : n < m). absurd (not_before items n m b a less)) (λ less. omega arith) (cases_lt n m))
    (cases_lt m n)

pub same_items : (items : List (List ℕ)) (ds es : List Entry) → AreEntries items ds → AreEntries items es → ds ≡ es
same_items items ds es a b = same_entries ds es (sym a.spelled ∙ b.spelled)

lineup_apart : (items : List (List ℕ)) (color : Color) (s : Lineup) → IsSetupReading items color (Ok s) → AreNoSetup items color → ⊥
lineup_apart items color s a b =
    let same : a.0.0 ≡ b.0 = same_items items a.0.0 b.0 a.0.1 b.1 in
    let P : List Entry → Type 0 = IsSetup color in
    b.2 (subst P same (rule_of_lineup s color a.0.0 a.2 a.1 a.0.2))

-- what items are read as is one
pub one_reading : (items : List (List ℕ)) (color : Color) (r s : Result Lineup NoteFault) → IsSetupReading items color r → IsSetupReading items color s → r ≡ s
one_reading items color (Ok s) (Ok t) a b =
    let same : b.0.0 ≡ a.0.0 = same_items items b.0.0 a.0.0 b.0.1 a.0.1 in
    let P : List Entry → Type 0 = λ x. IsPermutation x t.pairs in
    ap Ok (same_lineup s t a.0.0 a.2 b.2 (a.1 ∙ sym b.1) a.0.2 (subst P same b.0.2))
one_reading items color (Ok s) (Err (Token n)) a b = absurd (reads_apart items a.0.0 n a.0.1 b)
one_reading items color (Ok s) (Err Setup) a b = absurd (lineup_apart items color s a b)
one_reading items color (Ok s) (Err Steps) a b = absurd b
one_reading items color (Err (Token n)) (Ok t) a b = absurd (reads_apart items b.0.0 n b.0.1 a)
one_reading items color (Err (Token n)) (Err (Token m)) a b = ap (λ k. Err (Token k)) (same_number items n m a b)
one_reading items color (Err (Token n)) (Err Setup) a b = absurd (reads_apart items b.0 n b.1 a)
one_reading items color (Err (Token n)) (Err Steps) a b = absurd b
one_reading items color (Err Setup) (Ok t) a b = absurd (lineup_apart items color t b a)
one_reading items color (Err Setup) (Err (Token n)) a b = absurd (reads_apart items a.0 n a.1 b)
one_reading items color (Err Setup) (Err Setup) a b = refl
one_reading items color (Err Setup) (Err Steps) a b = absurd b
one_reading items color (Err Steps) s a b = absurd a
