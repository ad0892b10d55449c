-- What is written for a line is read as it, and what is written for a record falls into its lines.
use Rattle.std.proofs.Common.{◌≡◌, ℕ, ◌+◌, ◌-◌, ◌<◌, List, [], ◌∷◌, ◌++◌, length, take, get_or, map, refl, sym, ◌∙◌, ap, subst, arith, inl, append_assoc, Bool, true, false, true≢false, Some, Result, Ok, Err, take_all}
use Rattle.std.specs.Prelude.{codes, ◌==◌, OnOk}
use Rattle.std.specs.List.{AllByRecursion, prefix_len, suffix_len}
use Rattle.std.proofs.lemmas.Grind.{flat_map-append}
use Rattle.std.proofs.lemmas.List.{append-nil, reverse-append, take_more}
use Rattle.std.proofs.lemmas.List.Elements.{All-from_recursion, All-nil}
use Rattle.arimaa_board.specs.declared.board.Board.{Board}
use Rattle.arimaa_board.specs.declared.piece.Color.{Color}
use Rattle.arimaa_board.specs.declared.piece.Color.TheVariants.{Gold, Silver}
use Rattle.arimaa_board.specs.declared.turn.NotedStep.{NotedStep}
use Rattle.arimaa_board.specs.declared.piece.Piece.{Piece}
use Rattle.arimaa_board.specs.Setup.{Lineup, IsLineup}
use Rattle.arimaa_board.specs.Text.{places_of, text_of}
use Rattle.arimaa_board.proofs.Lemmas.ReadingLaws.{read_IsBoardText}
use Rattle.arimaa_board.proofs.Lemmas.TextLaws.{reading_of-text_of}
use Rattle.arimaa_board.specs.declared.ending.Word.{Word}
use Rattle.arimaa_board.specs.declared.ending.Word.TheVariants.{Resigns, Time}
use Rattle.arimaa_notation.specs.Items.{is_blank, items_of}
use Rattle.arimaa_notation.specs.Written.{items_of_turn, items_of_entries, items_text, text_of_turn, text_of_setup}
use Rattle.arimaa_notation.specs.Grammar.{IsTurnText, IsSetupText, IsTurnReading, IsSetupReading}
use Rattle.arimaa_notation.proofs.Lemmas.WrittenLaws.{size-lineup}
use Rattle.arimaa_notation.proofs.Lemmas.ItemLaws.{items-item, items-blank, no_items}
use Rattle.arimaa_record.specs.declared.label.Label.{Label}
use Rattle.arimaa_record.specs.declared.line.RecordLine.{RecordLine}
use Rattle.arimaa_record.specs.declared.line.RecordLine.TheVariants as line
use Rattle.arimaa_record.specs.Label.{side_of_letter, IsLabel, label_of, letter_of_side, text_of_label}
use Rattle.arimaa_notation.specs.Items.{without_last_blanks, without_outer_blanks}
use Rattle.arimaa_record.specs.Lines.{lines_of}
use Rattle.arimaa_record.specs.Grammar.{IsStartForm, IsLabelled, text_of_word, takeback_word, IsLineText}
use Rattle.arimaa_record.specs.Record.{AreLines}
use Rattle.arimaa_record.specs.Written.{IsInRange, IsWritable, with_spaces_before, text_of_line, ended_line, text_of_record}
use Rattle.arimaa_record.proofs.Lemmas.LineLaws.{no_lines}
use Rattle.arimaa_record.proofs.Lemmas.PlainLaws.{solid_seen, first_plain, label_seen, label_filled, line_plain}

side_back : (side : Color) → side_of_letter (letter_of_side side) ≡ Some side
side_back Gold = refl
side_back Silver = refl

-- what is written for a label in range is that label
pub label_back : (label : Label) → IsInRange label.number → IsLabel (text_of_label label) label
label_back label range = record { letter = letter_of_side label.side; side = side_back label.side; form = refl; least = range.least; most = range.most }

-- a line that begins so is labelled
labelled : (label : Label) (parts : List (List ℕ)) → IsInRange label.number → IsLabelled (items_text (text_of_label label ∷ parts)) label (items_of (with_spaces_before parts))
labelled label parts range = record {
  item = text_of_label label;
  begun = items-item (text_of_label label) (with_spaces_before parts) (label_filled label) (solid_seen (text_of_label label) (label_seen label range)) (ended parts);
  named = label_back label range;
}
  where
    ended : (parts : List (List ℕ)) → is_blank (get_or (with_spaces_before parts) 0 32) ≡ true
    ended [] = refl
    ended (x ∷ xs) = refl

spaced_items : (parts : List (List ℕ)) → items_of (with_spaces_before parts) ≡ items_of (items_text parts)
spaced_items [] = refl
spaced_items (x ∷ xs) = items-blank 32 (items_text (x ∷ xs)) refl

-- what is written of a line is read as it
abbrev pub ReadsBack : RecordLine → Type 0
ReadsBack l = IsWritable l → IsLineText (text_of_line l) l

blank_back : ReadsBack line.Blank
blank_back = λ h. inl no_items

pub turn_back : (number : ℕ) (side : Color) (noted : List NotedStep) → (0 < length noted → IsTurnText (text_of_turn noted) noted) → ReadsBack (line.Turn number side noted)
turn_back number side noted text = λ h.
    let t = text h.1 in
    let reading : IsTurnReading (items_of (items_text (items_of_turn noted))) (Ok noted) = (t.steps, t.some, t.few) in
    (items_of (with_spaces_before (items_of_turn noted)), labelled (label_of number side) (items_of_turn noted) h.0, subst (λ x. IsTurnReading x (Ok noted)) (sym (spaced_items (items_of_turn noted))) reading)

pub setup_back : (number : ℕ) (side : Color) (setup : Lineup) → IsSetupText (text_of_setup setup) setup.color setup → ReadsBack (line.Setup number side setup)
setup_back number side setup t = λ h.
    let reading : IsSetupReading (items_of (items_text (items_of_entries setup.pairs))) side (Ok setup) = (t.entries, h.1, t.rule) in
    (items_of (with_spaces_before (items_of_entries setup.pairs)), labelled (label_of number side) (items_of_entries setup.pairs) h.0, subst (λ x. IsSetupReading x side (Ok setup)) (sym (spaced_items (items_of_entries setup.pairs))) reading)

word_item : (w : Word) → items_of (with_spaces_before (text_of_word w ∷ [])) ≡ text_of_word w ∷ []
unfolding items_of
word_item Resigns = refl
word_item Time = refl

closing_back : (number : ℕ) (side : Color) (word : Word) → ReadsBack (line.Closing number side word)
closing_back number side word = λ h. subst (IsLabelled (text_of_line (line.Closing number side word)) (label_of number side)) (word_item word) (labelled (label_of number side) (text_of_word word ∷ []) h)

bare_back : (number : ℕ) (side : Color) → ReadsBack (line.Bare number side)
bare_back number side = λ h. subst (IsLabelled (text_of_line (line.Bare number side)) (label_of number side)) no_items (labelled (label_of number side) [] h)

takeback_item : items_of (with_spaces_before (takeback_word ∷ [])) ≡ takeback_word ∷ []
unfolding items_of
takeback_item = refl

takeback_back : (number : ℕ) (side : Color) → ReadsBack (line.Takeback number side)
takeback_back number side = λ h. subst (IsLabelled (text_of_line (line.Takeback number side)) (label_of number side)) takeback_item (labelled (label_of number side) (takeback_word ∷ []) h)

-- a board's text has no blank at its ends
last_closed : (xs : List ℕ) → without_last_blanks (xs ++ 93 ∷ []) ≡ xs ++ 93 ∷ []
last_closed xs =
    let ends : suffix_len is_blank (xs ++ 93 ∷ []) ≡ 0 = ap (prefix_len is_blank) (reverse-append xs (93 ∷ [])) in
    ap (λ n. take (length (xs ++ 93 ∷ []) - n) (xs ++ 93 ∷ [])) ends ∙ take_all _ (xs ++ 93 ∷ []) (omega arith)

pub trimmed_board : (b : Board) → text_of b ≡ without_outer_blanks (with_spaces_before (text_of b ∷ []))
trimmed_board b =
    let whole : text_of b ++ [] ≡ text_of b = append-nil (text_of b) in
    sym (ap without_last_blanks whole ∙ last_closed (91 ∷ places_of b))

start_form : (label : Label) (b : Board) → IsInRange label.number → IsStartForm (items_text (codes "start" ∷ text_of_label label ∷ text_of b ∷ [])) label (text_of b)
start_form label b range = record {
  after = with_spaces_before (text_of_label label ∷ text_of b ∷ []);
  word = record { blanks = []; cut = refl; blank = All-nil (λ c. is_blank c ≡ true); filled = omega arith; solid = All-from_recursion (λ c. is_blank c ≡ false) (codes "start") (refl, (refl, (refl, (refl, (refl, tt))))); ended = refl };
  item = text_of_label label;
  rest = with_spaces_before (text_of b ∷ []);
  next = record {
    blanks = 32 ∷ [];
    cut = refl;
    blank = All-from_recursion (λ c. is_blank c ≡ true) (32 ∷ []) (refl, tt);
    filled = label_filled label;
    solid = solid_seen (text_of_label label) (label_seen label range);
    ended = refl;
  };
  named = label_back label range;
  last = trimmed_board b;
}

start_back : (number : ℕ) (side : Color) (b : Board) → ReadsBack (line.Start number side b)
start_back number side b = λ h. (text_of b, start_form (label_of number side) b h.0, read_IsBoardText (text_of b) b (reading_of-text_of b h.1))

-- what is known of the parts that other crates write
abbrev pub IsPartsText : RecordLine → Type 0
IsPartsText line.Blank = Unit {0}
IsPartsText (line.Start number side board) = Unit {0}
IsPartsText (line.Setup number side setup) = IsSetupText (text_of_setup setup) setup.color setup
IsPartsText (line.Turn number side noted) = 0 < length noted → IsTurnText (text_of_turn noted) noted
IsPartsText (line.Closing number side word) = Unit {0}
IsPartsText (line.Bare number side) = Unit {0}
IsPartsText (line.Takeback number side) = Unit {0}

pub line_back : (l : RecordLine) → IsPartsText l → ReadsBack l
line_back line.Blank p = blank_back
line_back (line.Start number side board) p = start_back number side board
line_back (line.Setup number side setup) p = setup_back number side setup p
line_back (line.Turn number side noted) p = turn_back number side noted p
line_back (line.Closing number side word) p = closing_back number side word
line_back (line.Bare number side) p = bare_back number side
line_back (line.Takeback number side) p = takeback_back number side

lines_written : (ls : List RecordLine) → AllByRecursion IsWritable ls → lines_of (text_of_record ls) ≡ map text_of_line ls
lines_written [] all = no_lines
lines_written (l ∷ ls) all = first_plain (text_of_line l) (text_of_record ls) (line_plain l all.0) ∙ ap (λ x. text_of_line l ∷ x) (lines_written ls all.1)

said_written : (ls : List RecordLine) → AllByRecursion IsWritable ls → AllByRecursion ReadsBack ls → AreLines (map text_of_line ls) ls
said_written [] all back = tt
said_written (l ∷ ls) all back = (back.0 all.0, said_written ls all.1 back.1)

-- what is written of a record is read as it
pub record_back : (bytes : List ℕ) (ls : List RecordLine) → bytes ≡ text_of_record ls → AllByRecursion ReadsBack ls → AllByRecursion IsWritable ls → AreLines (lines_of bytes) ls
record_back bytes ls is back all = subst (λ x. AreLines x ls) (sym (ap lines_of is ∙ lines_written ls all)) (said_written ls all back)

-- for the exit that gives on another answer
pub on_ok : {T E P : Type 0} (r : Result T E) → P → OnOk r P
on_ok (Ok x) p = p
on_ok (Err e) p = tt

pub turn_spaced : (ns : List NotedStep) (empty : Bool) → empty ≡ (length ns == 0) → empty ≡ false → 32 ∷ text_of_turn ns ≡ with_spaces_before (items_of_turn ns)
turn_spaced [] empty is none = absurd (true≢false (sym is ∙ none))
turn_spaced (n ∷ ns) empty is none = refl

entries_spaced : (es : List (ℕ × Piece)) → 0 < length es → 32 ∷ items_text (items_of_entries es) ≡ with_spaces_before (items_of_entries es)
entries_spaced [] some = absurd (omega arith)
entries_spaced (e ∷ es) some = refl

-- a label and a setup make its line
pub setup_line : (old mid new part : List ℕ) (number : ℕ) (side : Color) (s : Lineup) (l : RecordLine) → new ≡ mid ++ 32 ∷ part → mid ≡ old ++ text_of_label (label_of number side) → part ≡ text_of_setup s
    → IsLineup s → l ≡ line.Setup number side s → new ≡ old ++ text_of_line l
setup_line old mid new part number side s l pushed begun text rule is =
    let label = text_of_label (label_of number side) in
    let some : 0 < length s.pairs = omega (arith, size-lineup s rule) in
    pushed
    ∙ (ap (λ x. x ++ 32 ∷ part) begun
    ∙ (append_assoc old label (32 ∷ part)
    ∙ (ap (λ x. old ++ (label ++ 32 ∷ x)) text ∙ (ap (λ x. old ++ (label ++ x)) (entries_spaced s.pairs some) ∙ ap (λ x. old ++ text_of_line x) (sym is)))))

-- one more line is written
pub record_more : (ls : List RecordLine) (i : ℕ) (l : RecordLine) (old new : List ℕ) → i < length ls → l ≡ get_or ls i l → old ≡ text_of_record (take i ls) → new ≡ old ++ ended_line l → new ≡ text_of_record (take (i + 1) ls)
record_more ls i l old new less is written pushed =
    let here : take (i + 1) ls ≡ take i ls ++ l ∷ [] = take_more ls i l less ∙ ap (λ x. take i ls ++ x ∷ []) (sym is) in
    pushed
    ∙ (ap (λ x. x ++ ended_line l) written
    ∙ (ap (λ x. text_of_record (take i ls) ++ x) (sym (append-nil (ended_line l))) ∙ (sym (flat_map-append ended_line (take i ls) (l ∷ [])) ∙ ap text_of_record (sym here))))
