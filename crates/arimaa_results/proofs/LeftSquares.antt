-- The square that a step leaves: it is empty after the step, and in no plane of the kind of a kept state that may be the one
-- after it.
use Rattle.std.proofs.Common.{◌≡◌, ℕ, ◌<◌, ◌≤◌, ◌≢◌, bit_or, List, length, drop, true, false, None, Some, refl, sym, ◌∙◌, ap, ⊎_elim, arith, get_or-set_same, get_or-set_other, true≢false}
use Rattle.std.specs.Prelude.{is_ok, slice_index}
use Rattle.std.specs.List.{slice_get}
use Rattle.std.proofs.lemmas.Bool.{and_parts, cases_lt, false_from_ne_true}
use Rattle.std.proofs.lemmas.List.{get_or_past}
use Rattle.std.proofs.lemmas.Nat.Bits.{bit_at-lt, bit_at_or}
use Rattle.arimaa_board.specs.declared.board.Board.{Board}
use Rattle.arimaa_board.specs.declared.position.Step.{Step}
use Rattle.arimaa_board.specs.Board.{at, put, moved, kept, settle, holds}
use Rattle.arimaa_board.specs.BoardLaws.{at-board_of}
use Rattle.arimaa_board.specs.Masks.{is_in}
use Rattle.arimaa_board.specs.Planes.{code_bit, plane_of}
use Rattle.arimaa_board.specs.Words.{code_of_content}
use Rattle.arimaa_board.proofs.Lemmas.PlanesBack.{bit_at-with_bits}
use Rattle.arimaa_model.specs.Moves.{target, is_free, fits, after}
use Rattle.arimaa_model.proofs.Lemmas.Pushers.{after_is, free_square}
use Rattle.arimaa_model.proofs.Lemmas.Shades.{across}
use Rattle.arimaa_region.specs.Same.{same_words, same_words-Decides}
use Rattle.arimaa_step.specs.declared.state.TurnState.{TurnState}
use Rattle.arimaa_step.specs.Next.{next_answer, next_state}
use Rattle.arimaa_step.specs.StateWords.{state_planes}
use Rattle.arimaa_step.proofs.Lemmas.AnswerLaws.{ok_parts, moves_fit}
use Rattle.arimaa_results.specs.LastSteps.{is_next}
use Rattle.arimaa_results.proofs.Kept.{kept_there}

after_from : (b : Board) (s : Step) → s.from < 64 → fits b s ≡ true → at (after b s) s.from ≡ None
unfolding fits settle
after_from b s small fit =
    let parts = and_parts (holds s.piece (at b s.from)) (is_free b (target s)) fit in
    let free = free_square b (target s) parts.1 in
    let over = across s.from s.dir free.0 small free.1 in
    let apart : s.from ≢ free.0 = omega (arith, over.other) in
    let inside : s.from < length b =
    ⊎_elim
    (λ (e : s.from < length b). e)
    (λ (e : length b ≤ s.from). let none : at b s.from ≡ None = get_or_past b s.from None e in absurd (true≢false (sym (sym (ap (holds s.piece) none) ∙ parts.0))))
    (cases_lt s.from (length b)) in
    let left : at (moved b s.from free.0) s.from ≡ None = get_or-set_other (put b s.from None) free.0 s.from (at b s.from) None apart ∙ get_or-set_same b s.from None None inside in
    ap (λ c. at c s.from) (after_is b s free.0 free.1) ∙ (at-board_of (λ x. kept (moved b s.from free.0) x (at (moved b s.from free.0) x)) s.from small ∙ rw left refl)

-- the square that an accepted step leaves is empty after it
pub left_empty : (st : TurnState) (s : Step) → s.from < 64 → is_ok (next_answer st s) ≡ true → at (next_state st s).board s.from ≡ None
left_empty st s small ok = after_from st.board s small (moves_fit st s (ok_parts st s ok).1)

-- an empty square is in none of the planes of the kind
not_in_planes : (b : Board) (n : ℕ) → n < 64 → at b n ≡ None → is_in (bit_or (bit_or (plane_of b 0) (plane_of b 1)) (plane_of b 2)) n ≡ false
not_in_planes b n small none =
    let bits : (k j : ℕ) → code_bit b k j < 2 = λ k j. bit_at-lt (code_of_content (at b j)) k in
    rw (bit_at_or, bit_at_or, bit_at-with_bits (code_bit b 0) (bits 0) 64 n small, bit_at-with_bits (code_bit b 1) (bits 1) 64 n small, bit_at-with_bits (code_bit b 2) (bits 2) 64 n small, none) refl

-- a state with an empty square isn't the kept one that has a piece there
pub not_there : (live : List (List ℕ)) (place : ℕ) (w : List ℕ) (st : TurnState) (n : ℕ) → place < length live → slice_get live place ≡ Some w → n < 64 → at st.board n ≡ None
    → is_in (bit_or (bit_or (slice_index w 0) (slice_index w 1)) (slice_index w 2)) n ≡ true → is_next (drop place live) st ≡ false
not_there live place w st n inside there small none bit =
    ap (λ l. is_next l st) (kept_there live place w inside there)
    ∙ false_from_ne_true (same_words w (state_planes st)) (λ e.
    let same = (same_words-Decides w (state_planes st)).0 e in
    true≢false (sym bit ∙ (ap (λ v. is_in (bit_or (bit_or (slice_index v 0) (slice_index v 1)) (slice_index v 2)) n) same ∙ not_in_planes st.board n small none)))
