-- No line has two readings.
use Rattle.std.proofs.Common.{◌≡◌, ◌≢◌, ⊎_elim, zero, suc, ℕ, ◌<◌, ◌+◌, List, [], ◌∷◌, ◌++◌, length, get_or, drop, true, false, cond, sym, ◌∙◌, ap, subst, arith, refl, inl, inr, ne_eqb, Result, Ok, Err}
use Rattle.std.specs.Prelude.{◌==◌, ◌⊎◌, All, codes}
use Rattle.std.proofs.Math.Seq.{drop-append_seam}
use Rattle.std.proofs.lemmas.Bool.{false≢true}
use Rattle.std.proofs.lemmas.List.Elements.{All-tail}
use Rattle.std.proofs.lemmas.List.Sorted.{length_permutation}
use Rattle.arimaa_board.specs.declared.board.Board.{Board}
use Rattle.arimaa_board.specs.declared.fault.BoardFault.{BoardFault}
use Rattle.arimaa_board.specs.declared.piece.Color.{Color}
use Rattle.arimaa_board.specs.declared.piece.Color.TheVariants.{Gold, Silver}
use Rattle.arimaa_board.specs.declared.piece.Kind.{Kind}
use Rattle.arimaa_board.specs.declared.piece.Kind.TheVariants.{Rabbit, Cat, Dog, Horse, Camel, Elephant}
use Rattle.arimaa_board.specs.declared.piece.Piece.{Piece}
use Rattle.arimaa_board.specs.declared.turn.NotedStep.{NotedStep}
use Rattle.arimaa_board.specs.Piece.{capital_of, letter_case}
use Rattle.arimaa_board.specs.Setup.{Lineup}
use Rattle.arimaa_board.specs.Text.{reading_of}
use Rattle.arimaa_board.proofs.Lemmas.ReadingLaws.{IsBoardText-read}
use Rattle.arimaa_board.specs.declared.ending.Word.{Word}
use Rattle.arimaa_board.specs.declared.ending.Word.TheVariants.{Resigns, Time}
use Rattle.arimaa_notation.specs.declared.fault.NoteFault.{NoteFault}
use Rattle.arimaa_notation.specs.declared.fault.NoteFault.TheVariants as note
use Rattle.arimaa_notation.specs.Items.{is_blank, items_of, IsFirstItem}
use Rattle.arimaa_notation.specs.Grammar.{AreSteps, AreEntries, IsTurnReading, IsSetupReading}
pub use Rattle.arimaa_notation.proofs.Lemmas.GrammarLaws.{head_same, tail_same}
use Rattle.arimaa_notation.proofs.Lemmas.ItemLaws.{items-first}
use Rattle.arimaa_notation.proofs.Lemmas.WrittenLaws.{size-lineup}
use Rattle.arimaa_notation.proofs.Lemmas.TurnReading as turns
use Rattle.arimaa_notation.proofs.Lemmas.SetupReading as setups
use Rattle.arimaa_record.specs.declared.label.Label.{Label}
use Rattle.arimaa_record.specs.declared.line.RecordLine.{RecordLine}
use Rattle.arimaa_record.specs.declared.line.RecordLine.TheVariants as line
use Rattle.arimaa_record.specs.declared.fault.LineFault.{LineFault}
use Rattle.arimaa_record.specs.declared.fault.LineFault.TheVariants as fault
use Rattle.arimaa_record.specs.Label.{IsLabel, label_of}
use Rattle.arimaa_notation.specs.Items.{without_outer_blanks}
use Rattle.arimaa_record.specs.Grammar.{IsStartForm, IsLabelled, HasForm, text_of_word, takeback_word, IsLineReading}
use Rattle.arimaa_record.proofs.LabelLaws.{label_first, same_label}

-- the first item begins with no blank
first_solid : (item rest : List ℕ) → 0 < length item → All (λ b. is_blank b ≡ false) item → is_blank (get_or (item ++ rest) 0 0) ≡ false
first_solid [] rest filled solid = absurd (omega arith)
first_solid (b ∷ bs) rest filled solid = solid 0 b (omega arith)

-- what follows the blanks at the front is one text
after_blanks : (xs ys m n : List ℕ) → All (λ b. is_blank b ≡ true) xs → All (λ b. is_blank b ≡ true) ys → is_blank (get_or m 0 0) ≡ false → is_blank (get_or n 0 0) ≡ false → xs ++ m ≡ ys ++ n → m ≡ n
after_blanks [] [] m n a b p q e = e
after_blanks [] (y ∷ ys) m n a b p q e = absurd (false≢true (sym p ∙ (ap (λ t. is_blank (get_or t 0 0)) e ∙ b 0 y (omega arith))))
after_blanks (x ∷ xs) [] m n a b p q e = absurd (false≢true (sym q ∙ (ap (λ t. is_blank (get_or t 0 0)) (sym e) ∙ a 0 x (omega arith))))
after_blanks (x ∷ xs) (y ∷ ys) m n a b p q e = after_blanks xs ys m n (All-tail (λ c. is_blank c ≡ true) x xs a) (All-tail (λ c. is_blank c ≡ true) y ys b) p q (tail_same e)

-- a text has one first item, and one text follows it
pub same_first : (bytes x m y n : List ℕ) → IsFirstItem bytes x m → IsFirstItem bytes y n → (x ≡ y) × (m ≡ n)
same_first bytes x m y n a b =
    let items : x ∷ items_of m ≡ y ∷ items_of n = sym (items-first bytes x m a) ∙ items-first bytes y n b in
    let item : x ≡ y = head_same items in
    let texts : x ++ m ≡ y ++ n = after_blanks a.blanks b.blanks (x ++ m) (y ++ n) a.blank b.blank (first_solid x m a.filled a.solid) (first_solid y n b.filled b.solid) (sym a.cut ∙ b.cut) in
    (item, sym (drop-append_seam x m) ∙ (ap (λ z. drop (length z) (x ++ m)) item ∙ (ap (drop (length y)) texts ∙ drop-append_seam y n)))

-- a line begins with one label, and the same items follow
pub same_labelled : (bytes : List ℕ) (l m : Label) (xs ys : List (List ℕ)) → IsLabelled bytes l xs → IsLabelled bytes m ys → (l ≡ m) × (xs ≡ ys)
same_labelled bytes l m xs ys a b =
    let both : a.item ∷ xs ≡ b.item ∷ ys = sym a.begun ∙ b.begun in
    let item : a.item ≡ b.item = head_same both in
    let named : IsLabel b.item l = subst (λ z. IsLabel z l) item a.named in
    (same_label b.item l m named b.named, tail_same both)

-- a start line has one label and one board text
pub same_start : (bytes : List ℕ) (l m : Label) (x y : List ℕ) → IsStartForm bytes l x → IsStartForm bytes m y → (l ≡ m) × (x ≡ y)
same_start bytes l m x y a b =
    let after : a.after ≡ b.after = (same_first bytes (codes "start") a.after (codes "start") b.after a.word b.word).1 in
    let next : IsFirstItem b.after a.item a.rest = subst (λ z. IsFirstItem z a.item a.rest) after a.next in
    let parts = same_first b.after a.item a.rest b.item b.rest next b.next in
    let named : IsLabel b.item l = subst (λ z. IsLabel z l) parts.0 a.named in
    (same_label b.item l m named b.named, a.last ∙ (ap without_outer_blanks parts.1 ∙ sym b.last))

-- a number for each form, as its first two items tell it
content_kind : List (List ℕ) → ℕ
content_kind [] = 7
content_kind (x ∷ xs) = cond (length x == 3) 3 (cond (length x == 7) 5 (cond (length x == 8) 8 (cond (get_or x 0 0 == 116) 6 4)))

line_kind : List (List ℕ) → ℕ
line_kind [] = 1
line_kind (x ∷ xs) = cond (get_or x 0 0 == 35) 1 (cond (get_or x 0 0 == 115) 2 (content_kind xs))

-- the number of a reading's form
kind_of_word : Word → ℕ
kind_of_word Resigns = 5
kind_of_word Time = 6

pub kind_of : Result RecordLine LineFault → ℕ
kind_of (Ok line.Blank) = 1
kind_of (Ok (line.Start number side board)) = 2
kind_of (Ok (line.Setup number side setup)) = 3
kind_of (Ok (line.Turn number side noted)) = 4
kind_of (Ok (line.Closing number side word)) = kind_of_word word
kind_of (Ok (line.Bare number side)) = 7
kind_of (Ok (line.Takeback number side)) = 8
kind_of (Err fault.Text) = 0
kind_of (Err (fault.Steps number side)) = 4
kind_of (Err (fault.BadStart number side f)) = 2
kind_of (Err (fault.BadSetup number side)) = 3

label_kind : (bytes : List ℕ) (label : Label) (items : List (List ℕ)) → IsLabelled bytes label items → content_kind items ≡ line_kind (items_of bytes)
unfolding line_kind
label_kind bytes label items h =
    let first = label_first h.item label h.named in
    let no_comment : (get_or h.item 0 0 == 35) ≡ false = ne_eqb _ 35 (λ e. omega arith) in
    let no_start : (get_or h.item 0 0 == 115) ≡ false = ne_eqb _ 115 (λ e. omega arith) in
    sym (ap line_kind h.begun ∙ (ap (λ t. cond t 1 (cond (get_or h.item 0 0 == 115) 2 (content_kind items))) no_comment ∙ ap (λ t. cond t 2 (content_kind items)) no_start))

start_kind : (bytes : List ℕ) (label : Label) (text : List ℕ) → IsStartForm bytes label text → 2 ≡ line_kind (items_of bytes)
unfolding line_kind
start_kind bytes label text h = sym (ap line_kind (items-first bytes (codes "start") h.after h.word))

entries_kind : (items : List (List ℕ)) (es : List (ℕ × Piece)) → AreEntries items es → 0 < length es → 3 ≡ content_kind items
unfolding content_kind
entries_kind items [] h some = absurd (omega arith)
entries_kind items (e ∷ es) h some = sym (ap content_kind h.spelled)

no_t : (c : Color) (k : Kind) → (capital_of k + letter_case c == 116) ≡ false
no_t Gold Rabbit = refl
no_t Gold Cat = refl
no_t Gold Dog = refl
no_t Gold Horse = refl
no_t Gold Camel = refl
no_t Gold Elephant = refl
no_t Silver Rabbit = refl
no_t Silver Cat = refl
no_t Silver Dog = refl
no_t Silver Horse = refl
no_t Silver Camel = refl
no_t Silver Elephant = refl

steps_kind : (items : List (List ℕ)) (ns : List NotedStep) → AreSteps items ns → 0 < length ns → 4 ≡ content_kind items
unfolding content_kind
steps_kind items [] h some = absurd (omega arith)
steps_kind items (n ∷ ns) h some = sym (ap content_kind h.spelled ∙ ap (λ t. cond t 6 4) (no_t n.step.piece.color n.step.piece.kind))

word_kind : (w : Word) → kind_of_word w ≡ content_kind (text_of_word w ∷ [])
unfolding content_kind kind_of_word
word_kind Resigns = refl
word_kind Time = refl

some_entries : (items : List (List ℕ)) (es : List (ℕ × Piece)) → AreEntries items es → items ≢ [] → 0 < length es
some_entries items [] h some = absurd (some h.spelled)
some_entries items (e ∷ es) h some = omega arith

-- a reading is of the form that the line's items tell
kind_read : (bytes : List ℕ) (r : Result RecordLine LineFault) → 0 < kind_of r → IsLineReading bytes r → kind_of r ≡ line_kind (items_of bytes)
unfolding kind_of line_kind content_kind
kind_read bytes (Ok line.Blank) k (inl none) = sym (ap line_kind none)
kind_read bytes (Ok line.Blank) k (inr comment) = sym (ap line_kind comment.begun)
kind_read bytes (Ok (line.Start number side board)) k h = start_kind bytes (label_of number side) h.0 h.1
kind_read bytes (Ok (line.Setup number side setup)) k h =
    let es = h.2.0.0 in
    let size : length es ≡ 16 = sym (length_permutation es setup.pairs h.2.0.2) ∙ size-lineup setup h.2.2 in
    entries_kind h.0 es h.2.0.1 (omega arith) ∙ label_kind bytes (label_of number side) h.0 h.1
kind_read bytes (Ok (line.Turn number side noted)) k h = steps_kind h.0 noted h.2.0 h.2.1 ∙ label_kind bytes (label_of number side) h.0 h.1
kind_read bytes (Ok (line.Closing number side word)) k h = word_kind word ∙ label_kind bytes (label_of number side) (text_of_word word ∷ []) h
kind_read bytes (Ok (line.Bare number side)) k h = label_kind bytes (label_of number side) [] h
kind_read bytes (Ok (line.Takeback number side)) k h = label_kind bytes (label_of number side) (takeback_word ∷ []) h
kind_read bytes (Err fault.Text) k h = absurd (omega arith)
kind_read bytes (Err (fault.Steps number side)) k h = steps_kind h.0 h.2.0 h.2.1 (omega (arith, h.2.2)) ∙ label_kind bytes (label_of number side) h.0 h.1
kind_read bytes (Err (fault.BadStart number side f)) k h = start_kind bytes (label_of number side) h.0 h.1
kind_read bytes (Err (fault.BadSetup number side)) k h = entries_kind h.0 h.3.0 h.3.1 (some_entries h.0 h.3.0 h.3.1 h.2) ∙ label_kind bytes (label_of number side) h.0 h.1

-- what a start line says, from what its board text is read as
start_reading : Label → Result Board BoardFault → Result RecordLine LineFault
start_reading l (Ok board) = Ok (line.Start l.number l.side board)
start_reading l (Err f) = Err (fault.BadStart l.number l.side f)

-- and so for a setup, and for a turn
setup_reading : Label → Result Lineup NoteFault → Result RecordLine LineFault
setup_reading l (Ok s) = Ok (line.Setup l.number l.side s)
setup_reading l (Err f) = Err (fault.BadSetup l.number l.side)

turn_reading : Label → Result (List NotedStep) NoteFault → Result RecordLine LineFault
turn_reading l (Ok ns) = Ok (line.Turn l.number l.side ns)
turn_reading l (Err f) = Err (fault.Steps l.number l.side)

abbrev Started : List ℕ → Result RecordLine LineFault → Type 0
Started bytes r = (label : Label) × (text : List ℕ) × IsStartForm bytes label text × (r ≡ start_reading label (reading_of text))

abbrev Placed : List ℕ → Result RecordLine LineFault → Type 0
Placed bytes r = (label : Label) × (items : List (List ℕ)) × (q : Result Lineup NoteFault) × IsLabelled bytes label items × IsSetupReading items label.side q × (r ≡ setup_reading label q)

abbrev Moved : List ℕ → Result RecordLine LineFault → Type 0
Moved bytes r = (label : Label) × (items : List (List ℕ)) × (q : Result (List NotedStep) NoteFault) × IsLabelled bytes label items × IsTurnReading items q × (r ≡ turn_reading label q)

abbrev Closed : List ℕ → Word → Result RecordLine LineFault → Type 0
Closed bytes word r = (label : Label) × IsLabelled bytes label (text_of_word word ∷ []) × (r ≡ Ok (line.Closing label.number label.side word))

abbrev Taken : List ℕ → Result RecordLine LineFault → Type 0
Taken bytes r = (label : Label) × IsLabelled bytes label (takeback_word ∷ []) × (r ≡ Ok (line.Takeback label.number label.side))

abbrev Bared : List ℕ → Result RecordLine LineFault → Type 0
Bared bytes r = (label : Label) × IsLabelled bytes label [] × (r ≡ Ok (line.Bare label.number label.side))

word_of_kind : (w : Word) (k : ℕ) → kind_of_word w ≡ k → k < 5 → ⊥
unfolding kind_of_word
word_of_kind Resigns k e small = omega arith
word_of_kind Time k e small = omega arith

blank_kind : (r : Result RecordLine LineFault) → kind_of r ≡ 1 → r ≡ Ok line.Blank
unfolding kind_of
blank_kind (Ok line.Blank) e = refl
blank_kind (Ok (line.Closing number side word)) e = absurd (word_of_kind word 1 e (omega arith))
blank_kind (Err fault.Text) e = absurd (omega arith)
blank_kind r e = absurd (omega arith)

started : (bytes : List ℕ) (r : Result RecordLine LineFault) → kind_of r ≡ 2 → IsLineReading bytes r → Started bytes r
unfolding kind_of start_reading
started bytes (Ok (line.Start number side board)) e h = (label_of number side, h.0, h.1, ap (start_reading (label_of number side)) (sym (IsBoardText-read h.0 board h.2)))
started bytes (Err (fault.BadStart number side f)) e h = (label_of number side, h.0, h.1, ap (start_reading (label_of number side)) (sym h.2))
started bytes (Ok (line.Closing number side word)) e h = absurd (word_of_kind word 2 e (omega arith))
started bytes r e h = absurd (omega arith)

placed : (bytes : List ℕ) (r : Result RecordLine LineFault) → kind_of r ≡ 3 → IsLineReading bytes r → Placed bytes r
unfolding kind_of setup_reading
placed bytes (Ok (line.Setup number side setup)) e h = (label_of number side, h.0, Ok setup, h.1, h.2, refl)
placed bytes (Err (fault.BadSetup number side)) e h = (label_of number side, h.0, Err note.Setup, h.1, h.3, refl)
placed bytes (Ok (line.Closing number side word)) e h = absurd (word_of_kind word 3 e (omega arith))
placed bytes r e h = absurd (omega arith)

moved : (bytes : List ℕ) (r : Result RecordLine LineFault) → kind_of r ≡ 4 → IsLineReading bytes r → Moved bytes r
unfolding kind_of turn_reading
moved bytes (Ok (line.Turn number side noted)) e h = (label_of number side, h.0, Ok noted, h.1, h.2, refl)
moved bytes (Err (fault.Steps number side)) e h = (label_of number side, h.0, Err note.Steps, h.1, h.2, refl)
moved bytes (Ok (line.Closing number side word)) e h = absurd (word_of_kind word 4 e (omega arith))
moved bytes r e h = absurd (omega arith)

closed : (bytes : List ℕ) (w : Word) (r : Result RecordLine LineFault) → kind_of r ≡ kind_of_word w → IsLineReading bytes r → Closed bytes w r
unfolding kind_of kind_of_word
closed bytes Resigns (Ok (line.Closing number side Resigns)) e h = (label_of number side, h, refl)
closed bytes Time (Ok (line.Closing number side Time)) e h = (label_of number side, h, refl)
closed bytes Resigns (Ok (line.Closing number side Time)) e h = absurd (omega arith)
closed bytes Time (Ok (line.Closing number side Resigns)) e h = absurd (omega arith)
closed bytes Resigns (Err fault.Text) e h = absurd (omega arith)
closed bytes Time (Err fault.Text) e h = absurd (omega arith)
closed bytes Resigns r e h = absurd (omega arith)
closed bytes Time r e h = absurd (omega arith)

bared : (bytes : List ℕ) (r : Result RecordLine LineFault) → kind_of r ≡ 7 → IsLineReading bytes r → Bared bytes r
unfolding kind_of kind_of_word
bared bytes (Ok (line.Bare number side)) e h = (label_of number side, h, refl)
bared bytes (Ok (line.Closing number side Resigns)) e h = absurd (omega arith)
bared bytes (Ok (line.Closing number side Time)) e h = absurd (omega arith)
bared bytes (Err fault.Text) e h = absurd (omega arith)
bared bytes r e h = absurd (omega arith)

taken : (bytes : List ℕ) (r : Result RecordLine LineFault) → kind_of r ≡ 8 → IsLineReading bytes r → Taken bytes r
unfolding kind_of kind_of_word
taken bytes (Ok (line.Takeback number side)) e h = (label_of number side, h, refl)
taken bytes (Ok (line.Closing number side Resigns)) e h = absurd (omega arith)
taken bytes (Ok (line.Closing number side Time)) e h = absurd (omega arith)
taken bytes (Err fault.Text) e h = absurd (omega arith)
taken bytes r e h = absurd (omega arith)

start_apart : (bytes : List ℕ) (r s : Result RecordLine LineFault) → Started bytes r → Started bytes s → r ≡ s
start_apart bytes r s a b =
    let same = same_start bytes a.0 b.0 a.1 b.1 a.2 b.2 in
    a.3 ∙ ((λ i. start_reading (same.0 i) (reading_of (same.1 i))) ∙ sym b.3)

setup_apart : (bytes : List ℕ) (r s : Result RecordLine LineFault) → Placed bytes r → Placed bytes s → r ≡ s
setup_apart bytes r s a b =
    let same = same_labelled bytes a.0 b.0 a.1 b.1 a.3 b.3 in
    let first : IsSetupReading b.1 b.0.side a.2 = subst (λ (x : Label × List (List ℕ)). IsSetupReading x.1 x.0.side a.2) (λ i. (same.0 i, same.1 i)) a.4 in
    let one : a.2 ≡ b.2 = setups.one_reading b.1 b.0.side a.2 b.2 first b.4 in
    a.5 ∙ ((λ i. setup_reading (same.0 i) (one i)) ∙ sym b.5)

turn_apart : (bytes : List ℕ) (r s : Result RecordLine LineFault) → Moved bytes r → Moved bytes s → r ≡ s
turn_apart bytes r s a b =
    let same = same_labelled bytes a.0 b.0 a.1 b.1 a.3 b.3 in
    let first : IsTurnReading b.1 a.2 = subst (λ x. IsTurnReading x a.2) same.1 a.4 in
    let one : a.2 ≡ b.2 = turns.one_reading b.1 a.2 b.2 first b.4 in
    a.5 ∙ ((λ i. turn_reading (same.0 i) (one i)) ∙ sym b.5)

closing_apart : (bytes : List ℕ) (w : Word) (r s : Result RecordLine LineFault) → Closed bytes w r → Closed bytes w s → r ≡ s
closing_apart bytes w r s a b =
    let same = same_labelled bytes a.0 b.0 (text_of_word w ∷ []) (text_of_word w ∷ []) a.1 b.1 in
    a.2 ∙ ((λ i. Ok (line.Closing (same.0 i).number (same.0 i).side w)) ∙ sym b.2)

bare_apart : (bytes : List ℕ) (r s : Result RecordLine LineFault) → Bared bytes r → Bared bytes s → r ≡ s
bare_apart bytes r s a b =
    let same = same_labelled bytes a.0 b.0 [] [] a.1 b.1 in
    a.2 ∙ ((λ i. Ok (line.Bare (same.0 i).number (same.0 i).side)) ∙ sym b.2)

takeback_apart : (bytes : List ℕ) (r s : Result RecordLine LineFault) → Taken bytes r → Taken bytes s → r ≡ s
takeback_apart bytes r s a b =
    let same = same_labelled bytes a.0 b.0 (takeback_word ∷ []) (takeback_word ∷ []) a.1 b.1 in
    a.2 ∙ ((λ i. Ok (line.Takeback (same.0 i).number (same.0 i).side)) ∙ sym b.2)

-- what is read has one of the forms, but for the fault of text
pub has_form : (bytes : List ℕ) (r : Result RecordLine LineFault) → 0 < kind_of r → IsLineReading bytes r → HasForm bytes
unfolding kind_of
has_form bytes (Ok line.Blank) k h = inl h
has_form bytes (Ok (line.Start number side board)) k h = inr (inl (label_of number side, h.0, h.1))
has_form bytes (Ok (line.Setup number side setup)) k h = inr (inr (label_of number side, h.0, h.1, inr (inl (h.2.0.0, h.2.0.1))))
has_form bytes (Ok (line.Turn number side noted)) k h = inr (inr (label_of number side, h.0, h.1, inr (inr (inl (noted, h.2.0)))))
has_form bytes (Ok (line.Closing number side word)) k h = inr (inr (label_of number side, text_of_word word ∷ [], h, inr (inr (inr (inl (word, refl))))))
has_form bytes (Ok (line.Takeback number side)) k h = inr (inr (label_of number side, takeback_word ∷ [], h, inr (inr (inr (inr refl)))))
has_form bytes (Ok (line.Bare number side)) k h = inr (inr (label_of number side, [], h, inl refl))
has_form bytes (Err fault.Text) k h = absurd (omega arith)
has_form bytes (Err (fault.Steps number side)) k h = inr (inr (label_of number side, h.0, h.1, inr (inr (inl (h.2.0, h.2.1)))))
has_form bytes (Err (fault.BadStart number side f)) k h = inr (inl (label_of number side, h.0, h.1))
has_form bytes (Err (fault.BadSetup number side)) k h = inr (inr (label_of number side, h.0, h.1, inr (inl (h.3.0, h.3.1))))

-- two readings of one form are the same
module _ (bytes : List ℕ) (r s : Result RecordLine LineFault) (a : IsLineReading bytes r) (b : IsLineReading bytes s) where
  start_same : kind_of r ≡ 2 → kind_of s ≡ 2 → r ≡ s
  start_same i j = start_apart bytes r s (started bytes r i a) (started bytes s j b)

  setup_same : kind_of r ≡ 3 → kind_of s ≡ 3 → r ≡ s
  setup_same i j = setup_apart bytes r s (placed bytes r i a) (placed bytes s j b)

  turn_same : kind_of r ≡ 4 → kind_of s ≡ 4 → r ≡ s
  turn_same i j = turn_apart bytes r s (moved bytes r i a) (moved bytes s j b)

  word_same : (w : Word) → kind_of r ≡ kind_of_word w → kind_of s ≡ kind_of_word w → r ≡ s
  word_same w i j = closing_apart bytes w r s (closed bytes w r i a) (closed bytes w s j b)

  bare_same : kind_of r ≡ 7 → kind_of s ≡ 7 → r ≡ s
  bare_same i j = bare_apart bytes r s (bared bytes r i a) (bared bytes s j b)

  takeback_same : kind_of r ≡ 8 → kind_of s ≡ 8 → r ≡ s
  takeback_same i j = takeback_apart bytes r s (taken bytes r i a) (taken bytes s j b)

same_kind : (bytes : List ℕ) (r s : Result RecordLine LineFault) → IsLineReading bytes r → IsLineReading bytes s → 0 < kind_of r → kind_of s ≡ kind_of r → r ≡ s
unfolding kind_of
same_kind bytes (Ok line.Blank) s a b k e = sym (blank_kind s e)
same_kind bytes (Ok (line.Start number side board)) s a b k e = start_same bytes (Ok (line.Start number side board)) s a b refl e
same_kind bytes (Ok (line.Setup number side setup)) s a b k e = setup_same bytes (Ok (line.Setup number side setup)) s a b refl e
same_kind bytes (Ok (line.Turn number side noted)) s a b k e = turn_same bytes (Ok (line.Turn number side noted)) s a b refl e
same_kind bytes (Ok (line.Closing number side word)) s a b k e = word_same bytes (Ok (line.Closing number side word)) s a b word refl e
same_kind bytes (Ok (line.Bare number side)) s a b k e = bare_same bytes (Ok (line.Bare number side)) s a b refl e
same_kind bytes (Ok (line.Takeback number side)) s a b k e = takeback_same bytes (Ok (line.Takeback number side)) s a b refl e
same_kind bytes (Err fault.Text) s a b k e = absurd (omega arith)
same_kind bytes (Err (fault.Steps number side)) s a b k e = turn_same bytes (Err (fault.Steps number side)) s a b refl e
same_kind bytes (Err (fault.BadStart number side f)) s a b k e = start_same bytes (Err (fault.BadStart number side f)) s a b refl e
same_kind bytes (Err (fault.BadSetup number side)) s a b k e = setup_same bytes (Err (fault.BadSetup number side)) s a b refl e

text_kind : (r : Result RecordLine LineFault) → kind_of r ≡ 0 → r ≡ Err fault.Text
unfolding kind_of
text_kind (Err fault.Text) e = refl
text_kind (Ok (line.Closing number side word)) e = absurd (word_of_kind word 0 e (omega arith))
text_kind r e = absurd (omega arith)

-- no line has two readings
pub one_reading : (bytes : List ℕ) (r s : Result RecordLine LineFault) → IsLineReading bytes r → IsLineReading bytes s → r ≡ s
one_reading bytes r s a b =
    ⊎_elim (λ (r_text : kind_of r ≡ 0).
    ⊎_elim (λ (s_text : kind_of s ≡ 0). text_kind r r_text ∙ sym (text_kind s s_text))
    (λ s_more. absurd (refuted bytes r s (text_kind r r_text) a s_more b))
    (zero_or_more (kind_of s)))
    (λ r_more.
    ⊎_elim (λ (s_text : kind_of s ≡ 0). absurd (refuted bytes s r (text_kind s s_text) b r_more a))
    (λ s_more. same_kind bytes r s a b r_more (kind_read bytes s s_more b ∙ sym (kind_read bytes r r_more a)))
    (zero_or_more (kind_of s)))
    (zero_or_more (kind_of r))
  where
    zero_or_more : (k : ℕ) → (k ≡ 0) ⊎ (0 < k)
    zero_or_more zero = inl refl
    zero_or_more (suc k) = inr (omega arith)

    refuted : (bytes : List ℕ) (r s : Result RecordLine LineFault) → r ≡ Err fault.Text → IsLineReading bytes r → 0 < kind_of s → IsLineReading bytes s → ⊥
    refuted bytes r s e a more b = let text : IsLineReading bytes (Err fault.Text) = subst (IsLineReading bytes) e a in text (has_form bytes s more b)
