-- The first item of a text, and texts without blanks at their ends.
use Rattle.std.proofs.Common.{◌≡◌, ℕ, zero, suc, ◌-◌, List, [], ◌∷◌, ◌++◌, length, take, drop, refl, sym, ◌∙◌, ap, arith, take_all, false, true}
use Rattle.std.specs.Prelude.{reverse}
use Rattle.std.specs.List.{prefix_len, suffix_len}
use Rattle.std.proofs.lemmas.List.{reverse-append}
use Rattle.arimaa_board.specs.declared.piece.Color.{Color}
use Rattle.arimaa_board.specs.declared.turn.NotedStep.{NotedStep}
use Rattle.arimaa_board.specs.Setup.{Lineup}
use Rattle.arimaa_notation.specs.Items.{is_blank, items_of, without_first_blanks, without_last_blanks, without_outer_blanks, word_of, after_word}
use Rattle.arimaa_notation.specs.Grammar.{IsTurnText, IsSetupText}
use Rattle.arimaa_notation.proofs.Lemmas.ItemLaws.{items-blank, items-first, items-none, first-cut}

-- a text that has items begins with the first of them
pub first_word : (bytes item : List ℕ) (items : List (List ℕ)) → items_of bytes ≡ item ∷ items → (word_of bytes ≡ item) × (items_of (after_word bytes) ≡ items)
first_word bytes item items is = by_length (length (without_first_blanks bytes)) refl
  where
    by_length : (n : ℕ) → length (without_first_blanks bytes) ≡ n → (word_of bytes ≡ item) × (items_of (after_word bytes) ≡ items)
    by_length zero none = let both : item ∷ items ≡ [] = sym is ∙ items-none bytes none in cc
    by_length (suc n) some =
        let cut : items_of bytes ≡ word_of bytes ∷ items_of (after_word bytes) = items-first bytes (word_of bytes) (after_word bytes) (first-cut bytes (without_first_blanks bytes) refl (omega arith)) in
        let both : word_of bytes ∷ items_of (after_word bytes) ≡ item ∷ items = sym cut ∙ is in
        let first : word_of bytes ≡ item = cc in
        let rest : items_of (after_word bytes) ≡ items = cc in
        (first, rest)

-- a blank at the front is no part of a trimmed text
pub trimmed-blank : (b : ℕ) (bs : List ℕ) → is_blank b ≡ true → without_outer_blanks (b ∷ bs) ≡ without_outer_blanks bs
trimmed-blank b bs blank =
    let front : prefix_len is_blank (b ∷ bs) ≡ suc (prefix_len is_blank bs) = rw blank (omega arith) in
    ap without_last_blanks (ap (λ n. drop n (b ∷ bs)) front)

-- a text with no blank at its ends is trimmed
pub trimmed-solid : (a z : ℕ) (middle : List ℕ) → is_blank a ≡ false → is_blank z ≡ false → without_outer_blanks ((a ∷ middle) ++ z ∷ []) ≡ (a ∷ middle) ++ z ∷ []
trimmed-solid a z middle first last =
    let text = (a ∷ middle) ++ z ∷ [] in
    let front : prefix_len is_blank text ≡ 0 = rw first refl in
    let turned : reverse text ≡ z ∷ reverse (a ∷ middle) = reverse-append (a ∷ middle) (z ∷ []) in
    let back : suffix_len is_blank text ≡ 0 = ap (prefix_len is_blank) turned ∙ rw last refl in
    ap (λ n. without_last_blanks (drop n text)) front ∙ (ap (λ n. take (length text - n) text) back ∙ take_all (length text - 0) text (omega arith))

-- a blank before the text of a turn or a setup changes nothing
pub blank_before_turn : (bytes : List ℕ) (ns : List NotedStep) → IsTurnText bytes ns → IsTurnText (32 ∷ bytes) ns
blank_before_turn bytes ns h =
    record { steps = record { spelled = items-blank 32 bytes refl ∙ h.steps.spelled; on_board = h.steps.on_board }; some = h.some; few = h.few }

pub blank_before_setup : (bytes : List ℕ) (color : Color) (s : Lineup) → IsSetupText bytes color s → IsSetupText (32 ∷ bytes) color s
blank_before_setup bytes color s h =
    record { entries = (h.entries.0, record { spelled = items-blank 32 bytes refl ∙ h.entries.1.spelled; on_board = h.entries.1.on_board }, h.entries.2); side = h.side; rule = h.rule }
