-- Written lines hold no byte below the space.
use Rattle.std.proofs.Common.{◌≡◌, ℕ, ◌<◌, ◌^◌, ◌-◌, List, [], ◌∷◌, ◌++◌, length, map, take, get_or, arith, Option, None, Some, false, refl, ◌∙◌, ap, cond, append_assoc, ne_eqb}
use Rattle.std.specs.Prelude.{All, codes}
use Rattle.std.specs.Fmt.{decimal}
use Rattle.std.specs.List.{AllByRecursion, range_with_len, slice_split, AllZip}
use Rattle.std.specs.Str.Lines.{strip_carriage_return}
use Rattle.std.proofs.lemmas.Fmt.{decimal_is_IsNumeral}
use Rattle.std.proofs.lemmas.List.Elements.{All-from_recursion, recursion_from_All, All-from_get_or}
use Rattle.std.proofs.lemmas.List.Splits.{slice_split_at, length-slice_split}
use Rattle.std.proofs.lemmas.Str.Parse.{digit_at}
use Rattle.arimaa_board.specs.declared.board.Board.{Board}
use Rattle.arimaa_board.specs.declared.piece.Color.{Color}
use Rattle.arimaa_board.specs.declared.piece.Color.TheVariants.{Gold, Silver}
use Rattle.arimaa_board.specs.declared.piece.Piece.{Piece}
use Rattle.arimaa_board.specs.declared.turn.NotedStep.{NotedStep}
use Rattle.arimaa_board.specs.Board.{at}
use Rattle.arimaa_board.specs.Text.{letter_of_content, places_of, text_of, turned}
use Rattle.arimaa_board.specs.declared.ending.Word.{Word}
use Rattle.arimaa_board.specs.declared.ending.Word.TheVariants.{Resigns, Time}
use Rattle.arimaa_notation.specs.Items.{is_blank}
use Rattle.arimaa_notation.specs.Written.{text_of_step, text_of_mark, text_of_entry, items_of_mark, items_of_step, items_of_turn, items_text}
use Rattle.arimaa_notation.proofs.Lemmas.ReadingBack.{not_blank, dir_seen}
use Rattle.arimaa_notation.proofs.Lemmas.WrittenLaws.{letter_seen}
use Rattle.arimaa_record.specs.declared.label.Label.{Label}
use Rattle.arimaa_record.specs.declared.line.RecordLine.{RecordLine}
use Rattle.arimaa_record.specs.declared.line.RecordLine.TheVariants as line
use Rattle.arimaa_record.specs.Label.{label_of, letter_of_side, text_of_label}
use Rattle.arimaa_record.specs.Grammar.{text_of_word, takeback_word}
use Rattle.arimaa_record.specs.Lines.{is_feed, lines_of_pieces, lines_of}
use Rattle.arimaa_record.specs.Written.{IsInRange, IsWritable, parts_of_line, with_spaces_before, text_of_line}
use Rattle.arimaa_record.proofs.Lemmas.LineLaws.{lines_of_pieces-cons}

-- bytes above the space
abbrev pub IsSeen : List ℕ → Type 0
IsSeen bytes = AllByRecursion (λ b. 32 < b) bytes

-- bytes that end no line
abbrev pub IsPlain : List ℕ → Type 0
IsPlain bytes = AllByRecursion (λ b. 31 < b) bytes

pub plain_seen : (bytes : List ℕ) → IsSeen bytes → IsPlain bytes
plain_seen [] all = tt
plain_seen (b ∷ bs) all = (omega (arith, all.0), plain_seen bs all.1)

pub solid_seen : (bytes : List ℕ) → IsSeen bytes → All (λ b. is_blank b ≡ false) bytes
solid_seen bytes all = All-from_recursion (λ b. is_blank b ≡ false) bytes (solid bytes all)
  where
    solid : (bytes : List ℕ) → IsSeen bytes → AllByRecursion (λ b. is_blank b ≡ false) bytes
    solid [] all = tt
    solid (b ∷ bs) all = (not_blank b all.0, solid bs all.1)

pub all_append : {X : Type 0} (P : X → Type 0) (xs ys : List X) → AllByRecursion P xs → AllByRecursion P ys → AllByRecursion P (xs ++ ys)
all_append P [] ys a b = b
all_append P (x ∷ xs) ys a b = (a.0, all_append P xs ys a.1 b)

-- of all these and of one more
pub all_more : {X : Type 0} (P : X → Type 0) (xs : List X) (x : X) → AllByRecursion P xs → P x → AllByRecursion P (xs ++ x ∷ [])
all_more P xs x all one = all_append P xs (x ∷ []) all (one, tt)

-- two lists are alike at each place where they are so far, and at one more
pub all_zip_push : {A B : Type 0} (R : A → B → Type 0) (xs : List A) (ys : List B) (x : A) (y : B)
    → AllZip R xs ys → R x y → AllZip R (xs ++ x ∷ []) (ys ++ y ∷ [])
all_zip_push R [] [] x y all more = (more, tt)
all_zip_push R [] (b ∷ ys) x y all more = absurd all
all_zip_push R (a ∷ xs) [] x y all more = absurd all
all_zip_push R (a ∷ xs) (b ∷ ys) x y all more = (all.0, all_zip_push R xs ys x y all.1 more)

all_map : {X Y : Type 0} (P : Y → Type 0) (f : X → Y) (xs : List X) → ((x : X) → P (f x)) → AllByRecursion P (map f xs)
all_map P f [] h = tt
all_map P f (x ∷ xs) h = (h x, all_map P f xs h)

-- a label is of digits and a letter
side_seen : (side : Color) → 32 < letter_of_side side
side_seen Gold = omega arith
side_seen Silver = omega arith

pub decimal_seen : (n : ℕ) → n < 2 ^ 64 → IsSeen (decimal n)
decimal_seen n small =
    recursion_from_All (λ b. 32 < b) (decimal n)
    (All-from_get_or (λ b. 32 < b) (decimal n) 0 (λ i less. let digit = digit_at (decimal n) i (decimal_is_IsNumeral n small).0.1 less in omega arith))

pub label_seen : (label : Label) → IsInRange label.number → IsSeen (text_of_label label)
label_seen label range = all_append (λ b. 32 < b) (decimal label.number) (letter_of_side label.side ∷ []) (decimal_seen label.number (omega (arith, range.most))) (side_seen label.side, tt)

pub label_filled : (label : Label) → 0 < length (text_of_label label)
label_filled label = filled (decimal label.number)
  where
    filled : (ds : List ℕ) → 0 < length (ds ++ letter_of_side label.side ∷ [])
    filled [] = omega arith
    filled (d ∷ ds) = omega arith

mark_plain : (m : Option (Piece × ℕ)) → AllByRecursion IsPlain (items_of_mark m)
mark_plain None = tt
mark_plain (Some m) = (plain_seen (text_of_mark m) (letter_seen m.0, (omega arith, (omega arith, (omega arith, tt)))), tt)

pub turn_plain : (ns : List NotedStep) → AllByRecursion IsPlain (items_of_turn ns)
turn_plain [] = tt
turn_plain (n ∷ ns) =
    all_append IsPlain (items_of_step n) (items_of_turn ns)
    (plain_seen (text_of_step n.step) (letter_seen n.step.piece, (omega arith, (omega arith, (dir_seen n.step.dir, tt)))), mark_plain n.mark) (turn_plain ns)

entry_plain : (e : ℕ × Piece) → IsPlain (text_of_entry e)
entry_plain e = plain_seen (text_of_entry e) (letter_seen e.1, (omega arith, (omega arith, tt)))

content_plain : (p : Option Piece) → 31 < letter_of_content p
content_plain None = omega arith
content_plain (Some p) = omega (arith, letter_seen p)

places_plain : (b : Board) → IsPlain (places_of b)
unfolding places_of
places_plain b = all_map (λ c. 31 < c) (λ k. letter_of_content (at b (turned k))) (range_with_len 0 64) (λ k. content_plain (at b (turned k)))

pub board_plain : (b : Board) → IsPlain (text_of b)
board_plain b = all_append (λ c. 31 < c) (91 ∷ places_of b) (93 ∷ []) (omega arith, places_plain b) (omega arith, tt)

word_plain : (w : Word) → IsPlain (text_of_word w)
word_plain Resigns = (omega arith, (omega arith, (omega arith, (omega arith, (omega arith, (omega arith, (omega arith, tt)))))))
word_plain Time = (omega arith, (omega arith, (omega arith, (omega arith, tt))))

parts_plain : (l : RecordLine) → IsWritable l → AllByRecursion IsPlain (parts_of_line l)
parts_plain line.Blank h = tt
parts_plain (line.Start number side board) h = (start_plain, (plain_seen _ (label_seen (label_of number side) h.0), (board_plain board, tt)))
  where
    start_plain : IsPlain (codes "start")
    start_plain = (omega arith, (omega arith, (omega arith, (omega arith, (omega arith, tt)))))
parts_plain (line.Setup number side setup) h = (plain_seen _ (label_seen (label_of number side) h.0), all_map IsPlain text_of_entry setup.pairs entry_plain)
parts_plain (line.Turn number side noted) h = (plain_seen _ (label_seen (label_of number side) h.0), turn_plain noted)
parts_plain (line.Closing number side word) h = (plain_seen _ (label_seen (label_of number side) h), (word_plain word, tt))
parts_plain (line.Bare number side) h = (plain_seen _ (label_seen (label_of number side) h), tt)
parts_plain (line.Takeback number side) h = (plain_seen _ (label_seen (label_of number side) h), (takeback_plain, tt))
  where
    takeback_plain : IsPlain takeback_word
    takeback_plain = (omega arith, (omega arith, (omega arith, (omega arith, (omega arith, (omega arith, (omega arith, (omega arith, tt))))))))

spaced_plain : (parts : List (List ℕ)) → AllByRecursion IsPlain parts → IsPlain (with_spaces_before parts)
spaced_plain [] all = tt
spaced_plain (x ∷ xs) all = all_append (λ b. 31 < b) (32 ∷ x) (with_spaces_before xs) (omega arith, all.0) (spaced_plain xs all.1)

pub joined_plain : (parts : List (List ℕ)) → AllByRecursion IsPlain parts → IsPlain (items_text parts)
joined_plain [] all = tt
joined_plain (x ∷ xs) all = all_append (λ b. 31 < b) x (with_spaces_before xs) all.0 (spaced_plain xs all.1)

-- a written line has no byte that ends a line
pub line_plain : (l : RecordLine) → IsWritable l → IsPlain (text_of_line l)
line_plain l h = joined_plain (parts_of_line l) (parts_plain l h)

-- a text without line ends is a line
no_feeds : (bytes : List ℕ) → IsPlain bytes → AllByRecursion (λ b. is_feed b ≡ false) bytes
no_feeds [] all = tt
no_feeds (b ∷ bs) all = (ne_eqb b 10 (λ e. omega (arith, all.0)), no_feeds bs all.1)

last_plain : (bytes : List ℕ) → IsPlain bytes → get_or bytes (length bytes - 1) 0 ≡ 13 → ⊥
last_plain [] all e = omega arith
last_plain (b ∷ bs) all e = let above : 31 < get_or (b ∷ bs) (length (b ∷ bs) - 1) 0 = All-from_recursion (λ c. 31 < c) (b ∷ bs) all (length (b ∷ bs) - 1) 0 (omega arith) in omega arith

stripped_plain : (bytes : List ℕ) → IsPlain bytes → strip_carriage_return bytes ≡ bytes
stripped_plain bytes all = ap (λ t. cond t (take (length bytes - 1) bytes) bytes) (ne_eqb _ 13 (last_plain bytes all))

pub first_plain : (bytes rest : List ℕ) → IsPlain bytes → lines_of ((bytes ++ 10 ∷ []) ++ rest) ≡ bytes ∷ lines_of rest
unfolding lines_of
first_plain bytes rest all =
    ap (λ x. lines_of_pieces (slice_split is_feed x)) (append_assoc bytes (10 ∷ []) rest)
    ∙ (ap lines_of_pieces (slice_split_at is_feed bytes 10 rest (All-from_recursion (λ b. is_feed b ≡ false) bytes (no_feeds bytes all)) refl)
    ∙ (lines_of_pieces-cons bytes (slice_split is_feed rest) (omega (arith, length-slice_split is_feed rest)) ∙ ap (λ x. x ∷ lines_of rest) (stripped_plain bytes all)))
