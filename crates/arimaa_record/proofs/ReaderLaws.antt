-- Lines that have none of the forms, and those of one form alone.
use Rattle.std.proofs.Common.{◌≡◌, ◌≢◌, ⊎_elim, ℕ, ◌<◌, List, [], ◌∷◌, length, take, get_or, false, true≢false, sym, ◌∙◌, ap, subst, arith, refl, inl, inr, eq-eqb, Result, Ok, Err}
use Rattle.std.specs.Prelude.{◌==◌, ◌↔◌, codes}
use Rattle.std.proofs.lemmas.Bool.{cases_lt}
use Rattle.std.proofs.lemmas.List.{take-map}
use Rattle.arimaa_board.specs.declared.piece.Piece.{Piece}
use Rattle.arimaa_board.specs.declared.turn.NotedStep.{NotedStep}
use Rattle.arimaa_board.specs.Setup.{Lineup}
use Rattle.arimaa_notation.specs.declared.fault.NoteFault.{NoteFault}
use Rattle.arimaa_notation.specs.declared.fault.NoteFault.TheVariants.{Token, Steps, Setup}
use Rattle.arimaa_notation.specs.Items.{items_of, IsFirstItem}
use Rattle.arimaa_board.specs.declared.ending.Word.{Word}
use Rattle.arimaa_notation.specs.Written.{text_of_entry, items_of_entries}
use Rattle.arimaa_notation.specs.Grammar.{AreSteps, AreEntries, IsNamedItem, IsFirstBadEntry}
use Rattle.arimaa_notation.proofs.Lemmas.ItemLaws.{items-first}
use Rattle.arimaa_notation.proofs.Lemmas.SetupReading.{all_take}
use Rattle.arimaa_notation.proofs.Lemmas.TurnReading as turns
use Rattle.arimaa_record.specs.declared.label.Label.{Label}
use Rattle.arimaa_record.specs.declared.line.RecordLine.{RecordLine}
use Rattle.arimaa_record.specs.declared.fault.LineFault.{LineFault}
use Rattle.arimaa_record.specs.Label.{IsLabel}
use Rattle.arimaa_record.specs.Grammar.{IsStartForm, IsLabelled, IsNoWord, IsNoOtherContent, IsContent, HasForm, IsLineReading, text_of_word, takeback_word}
use Rattle.arimaa_record.proofs.LabelLaws.{label_first}
use Rattle.arimaa_record.proofs.Lemmas.FormLaws.{head_same, same_first, same_labelled, one_reading}

-- the answer is this one exactly where the line is read as it
pub exactly : (bytes : List ℕ) (r s : Result RecordLine LineFault) → IsLineReading bytes r → (r ≡ s) ↔ IsLineReading bytes s
exactly bytes r s h = (λ e. subst (IsLineReading bytes) e h, λ g. one_reading bytes r s h g)

-- a line that begins with the word can only be a start line
only_start : (bytes after : List ℕ) → IsFirstItem bytes (codes "start") after → HasForm bytes → (label : Label) × (text : List ℕ) × IsStartForm bytes label text
only_start bytes after first (inl (inl none)) = let e = items-first bytes (codes "start") after first in absurd (let both : codes "start" ∷ items_of after ≡ [] = sym e ∙ none in cc)
only_start bytes after first (inl (inr comment)) =
    let e : codes "start" ∷ items_of after ≡ (35 ∷ comment.item) ∷ comment.items = sym (items-first bytes (codes "start") after first) ∙ comment.begun in
    let byte : get_or (codes "start") 0 0 ≡ 35 = ap (λ z. get_or z 0 0) (head_same e) in
    absurd (omega arith)
only_start bytes after first (inr (inl form)) = form
only_start bytes after first (inr (inr h)) =
    let e : codes "start" ∷ items_of after ≡ h.2.item ∷ h.1 = sym (items-first bytes (codes "start") after first) ∙ h.2.begun in
    let named : IsLabel (codes "start") h.0 = subst (λ z. IsLabel z h.0) (sym (head_same e)) h.2.named in
    absurd (let digit = label_first (codes "start") h.0 named in omega arith)

-- nothing follows the word
pub start_alone : (bytes after : List ℕ) → IsFirstItem bytes (codes "start") after → items_of after ≡ [] → HasForm bytes → ⊥
start_alone bytes after first none form =
    let f = (only_start bytes after first form).2 in
    let same : f.after ≡ after = (same_first bytes (codes "start") f.after (codes "start") after f.word first).1 in
    let some : items_of f.after ≡ f.item ∷ items_of f.rest = items-first f.after f.item f.rest f.next in
    let both : f.item ∷ items_of f.rest ≡ [] = sym some ∙ (ap items_of same ∙ none) in
    cc

-- no label follows the word
pub start_unlabelled : (bytes after item rest : List ℕ) → IsFirstItem bytes (codes "start") after → IsFirstItem after item rest → ((l : Label) → IsLabel item l → ⊥) → HasForm bytes → ⊥
start_unlabelled bytes after item rest first next never form =
    let found = only_start bytes after first form in
    let f = found.2 in
    let same : f.after ≡ after = (same_first bytes (codes "start") f.after (codes "start") after f.word first).1 in
    let moved : IsFirstItem after f.item f.rest = subst (λ z. IsFirstItem z f.item f.rest) same f.next in
    let item_same : f.item ≡ item = (same_first after f.item f.rest item rest moved next).0 in
    never found.0 (subst (λ z. IsLabel z found.0) item_same f.named)

-- the first item is no label, no comment, and not the word
pub unlabelled : (bytes item rest : List ℕ) → IsFirstItem bytes item rest → (get_or item 0 0 == 35) ≡ false → (item ≡ codes "start" → ⊥) → ((l : Label) → IsLabel item l → ⊥) → HasForm bytes → ⊥
unlabelled bytes item rest first no_comment no_start never (inl (inl none)) = let both : item ∷ items_of rest ≡ [] = sym (items-first bytes item rest first) ∙ none in cc
unlabelled bytes item rest first no_comment no_start never (inl (inr comment)) =
    let e : item ∷ items_of rest ≡ (35 ∷ comment.item) ∷ comment.items = sym (items-first bytes item rest first) ∙ comment.begun in
    true≢false (sym (eq-eqb (get_or item 0 0) 35 (ap (λ z. get_or z 0 0) (head_same e))) ∙ no_comment)
unlabelled bytes item rest first no_comment no_start never (inr (inl form)) = no_start (same_first bytes item rest (codes "start") form.2.after first form.2.word).0
unlabelled bytes item rest first no_comment no_start never (inr (inr h)) =
    let e : item ∷ items_of rest ≡ h.2.item ∷ h.1 = sym (items-first bytes item rest first) ∙ h.2.begun in
    never h.0 (subst (λ z. IsLabel z h.0) (sym (head_same e)) h.2.named)

-- a line that begins with a label is of a form only where what follows is
labelled_form : (bytes : List ℕ) (label : Label) (items : List (List ℕ)) → IsLabelled bytes label items → HasForm bytes → IsContent items
labelled_form bytes label items h (inl (inl none)) = absurd (let both : h.item ∷ items ≡ [] = sym h.begun ∙ none in cc)
labelled_form bytes label items h (inl (inr comment)) =
    let e : h.item ∷ items ≡ (35 ∷ comment.item) ∷ comment.items = sym h.begun ∙ comment.begun in
    let byte : get_or h.item 0 0 ≡ 35 = ap (λ z. get_or z 0 0) (head_same e) in
    absurd (let digit = label_first h.item label h.named in omega arith)
labelled_form bytes label items h (inr (inl form)) =
    let f = form.2 in
    let e : h.item ∷ items ≡ codes "start" ∷ items_of f.after = sym h.begun ∙ items-first bytes (codes "start") f.after f.word in
    let byte : get_or h.item 0 0 ≡ 115 = ap (λ z. get_or z 0 0) (head_same e) in
    absurd (let digit = label_first h.item label h.named in omega arith)
labelled_form bytes label items h (inr (inr g)) = subst IsContent (same_labelled bytes g.0 label g.1 items g.2 h).1 g.3

-- where an item of a turn is named, the items are no steps
named_bad : (items : List (List ℕ)) (number : ℕ) (ns : List NotedStep) → IsNamedItem items number → AreSteps items ns → 0 < length ns → ⊥
named_bad items number ns named h some =
    ⊎_elim
    (λ (many : 4 < length ns). let same : ◌≡◌ {A = Result (List NotedStep) NoteFault} (Err Steps) (Err (Token number)) = turns.one_reading items (Err Steps) (Err (Token number)) (ns, h, many) named in cc)
    (λ few. let same : ◌≡◌ {A = Result (List NotedStep) NoteFault} (Ok ns) (Err (Token number)) = turns.one_reading items (Ok ns) (Err (Token number)) (h, some, few) named in cc)
    (cases_lt 4 (length ns))

some_steps : (items : List (List ℕ)) (ns : List NotedStep) → AreSteps items ns → items ≢ [] → 0 < length ns
some_steps items [] h some = absurd (some h.spelled)
some_steps items (n ∷ ns) h some = omega arith

no_steps : (items : List (List ℕ)) (f : NoteFault) → ((n : ℕ) → (◌≡◌ {A = Result (List NotedStep) NoteFault} (Err f) (Err (Token n))) ↔ IsNamedItem items n) → (f ≡ Steps → ⊥) → (f ≡ Setup → ⊥)
    → items ≢ [] → (ns : List NotedStep) → AreSteps items ns → ⊥
no_steps items (Token n) token a b some ns h = named_bad items n ns ((token n).0 refl) h (some_steps items ns h some)
no_steps items Steps token a b some ns h = a refl
no_steps items Setup token a b some ns h = b refl

-- what follows a label is of no form
pub no_content : (bytes : List ℕ) (label : Label) (items : List (List ℕ)) (f : NoteFault) → ((n : ℕ) → (◌≡◌ {A = Result (List NotedStep) NoteFault} (Err f) (Err (Token n))) ↔ IsNamedItem items n) → (f ≡ Steps → ⊥) → (f ≡ Setup → ⊥)
    → IsLabelled bytes label items → IsNoOtherContent items → HasForm bytes → ⊥
no_content bytes label items f token a b h other form = by_content (labelled_form bytes label items h form)
  where
    by_content : IsContent items → ⊥
    by_content (inl none) = other.others.some none
    by_content (inr (inl entries)) = other.no_entries entries.0 entries.1
    by_content (inr (inr (inl steps))) = no_steps items f token a b other.others.some steps.0 steps.1
    by_content (inr (inr (inr (inl word)))) = other.others.no_word word.0 word.1
    by_content (inr (inr (inr (inr takeback)))) = other.others.no_takeback takeback

bad_entries : (items : List (List ℕ)) (number : ℕ) → IsFirstBadEntry items number → (es : List (ℕ × Piece)) → AreEntries items es → ⊥
bad_entries items number bad es h = bad.bad (take number es) (record { spelled = ap (take number) h.spelled ∙ take-map text_of_entry number es; on_board = all_take number es h.on_board })

-- where an item of a setup is named, the items are no entries
pub no_entries : (items : List (List ℕ)) (f : NoteFault) → ((n : ℕ) → (◌≡◌ {A = Result Lineup NoteFault} (Err f) (Err (Token n))) ↔ IsFirstBadEntry items n) → (f ≡ Steps → ⊥) → (f ≡ Setup → ⊥)
    → (es : List (ℕ × Piece)) → AreEntries items es → ⊥
no_entries items (Token n) token a b es h = bad_entries items n ((token n).0 refl) es h
no_entries items Steps token a b es h = a refl
no_entries items Setup token a b es h = b refl

pub err_same : {X : Type 0} {f g : NoteFault} → f ≡ g → ◌≡◌ {A = Result X NoteFault} (Err f) (Err g)
err_same e = ap Err e

-- a first item that is no word alone
pub no_word : (text item : List ℕ) (rest : List (List ℕ)) → items_of text ≡ item ∷ rest
    → ((w : Word) → item ∷ rest ≡ text_of_word w ∷ [] → ⊥) → (item ∷ rest ≡ takeback_word ∷ [] → ⊥) → IsNoWord (items_of text)
no_word text item rest first never no_takeback = record {
  some = λ none. let both : item ∷ rest ≡ [] = sym first ∙ none in cc;
  no_word = λ w is. never w (sym first ∙ is);
  no_takeback = λ is. no_takeback (sym first ∙ is);
}

-- the first item of entries has three bytes
pub no_entry : (text item : List ℕ) (rest : List (List ℕ)) → items_of text ≡ item ∷ rest
    → (length item ≡ 3 → ⊥) → (es : List (ℕ × Piece)) → AreEntries (items_of text) es → ⊥
no_entry text item rest first other [] h = let both : item ∷ rest ≡ [] = sym first ∙ h.spelled in cc
no_entry text item rest first other (e ∷ es) h =
    let both : item ∷ rest ≡ text_of_entry e ∷ items_of_entries es = sym first ∙ h.spelled in
    other (ap length (head_same both))
