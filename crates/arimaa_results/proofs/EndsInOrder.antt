-- What the last steps in order bring about, by the masks of the steps that end a move.
use Rattle.std.proofs.Common.{◌≡◌, ℕ, ◌<◌, ◌&&◌, List, [], ◌∷◌, Bool, true, false, cond, Option, None, Some, refl, sym, ◌∙◌, ap, append-nil}
use Rattle.std.specs.Prelude.{is_ok, not}
use Rattle.std.specs.List.{flat_map, range_with_len}
use Rattle.std.proofs.lemmas.Bool.{and_parts}
use Rattle.arimaa_board.specs.declared.piece.Piece.{Piece}
use Rattle.arimaa_board.specs.declared.square.Dir.{Dir}
use Rattle.arimaa_board.specs.declared.position.Position.{Position}
use Rattle.arimaa_board.specs.declared.position.Step.{Step}
use Rattle.arimaa_board.specs.Board.{at}
use Rattle.arimaa_board.specs.Square.{directions}
use Rattle.arimaa_model.specs.Plain.{steps_of}
use Rattle.arimaa_model.specs.Results.{step_of}
use Rattle.arimaa_model.proofs.Lemmas.Lists.{flat_map-flat_map, flat_map-map}
use Rattle.arimaa_model.proofs.Lemmas.Reaching.{candidates-is}
use Rattle.arimaa_step.specs.declared.accepted_steps.AcceptedSteps.{AcceptedSteps}
use Rattle.arimaa_step.specs.declared.state.TurnState.{TurnState}
use Rattle.arimaa_step.specs.AcceptedSteps.{ends_by, ends_content, mask_towards}
use Rattle.arimaa_step.specs.CommutingSteps.{commutes_before, AreEndingInOrder}
use Rattle.arimaa_step.specs.Next.{next_answer, next_state, cuts_next, state_end, goes_alone}
use Rattle.arimaa_results.specs.Ahead.{given_by}
use Rattle.arimaa_results.specs.LastSteps.{ends_with, ends_in_order, brings_in_order}
use Rattle.arimaa_results.specs.NextStates.{AreAllEnding, ends_of, pairs_by, pairs_of_content, has_step, pairs_from, pairs_left}
use Rattle.arimaa_results.proofs.FirstSteps.{in_mask}
use Rattle.arimaa_results.proofs.StatePairs.{given, given_none, pairs_by-is, same_numbers}

module _ (before : TurnState) (s : Step) (a : AcceptedSteps) (are : AreEndingInOrder before s a) where
  abbrev S : TurnState
  S = next_state before s

  abbrev Left : Step → Bool
  Left t = goes_alone before s && commutes_before s t

  -- whichever piece
  pub in_order_ending : AreAllEnding S a
  in_order_ending d n small there =
      (and_parts (ends_by S d n) (not (Left (step_of n d s.piece))) (sym (in_mask (λ m. ends_by S d m && not (Left (step_of m d s.piece))) (mask_towards a d) n (are d s.piece) small) ∙ there)).0

  module _ (barred : List Position) where
    -- what a step brings about as the last one, by its pairs
    ends_pairs : (t : Step) → flat_map (given barred S) (pairs_by S t) ≡ ends_with barred S t
    ends_pairs t =
        ap (flat_map (given barred S)) (pairs_by-is S t)
        ∙ elim (is_ok (next_answer S t)) as (λ v. flat_map (given barred S) (cond v ((t, next_state S t) ∷ []) []) ≡ cond v (given_by barred (state_end (next_state S t))) []) [
          | true ↦ append-nil (given_by barred (state_end (next_state S t)))
          | false ↦ refl
        ]

    -- the masks leave out what brings about nothing, and what comes in order
    each_piece : (n : ℕ) (d : Dir) (p : Piece) → at S.board n ≡ Some p → n < 64 → flat_map (given barred S) (cond (has_step a n d) (pairs_by S (step_of n d p)) []) ≡ ends_in_order barred before s (step_of n d p)
    each_piece n d p here small =
        let t = step_of n d p in
        let mask : (ends_content S d n (Some p) && not (Left t)) ≡ has_step a n d =
        sym (ap (λ o. ends_content S d n o && not (Left t)) here) ∙ sym (in_mask (λ m. ends_by S d m && not (Left (step_of m d p))) (mask_towards a d) n (are d p) small) in
        ap (λ v. flat_map (given barred S) (cond v (pairs_by S t) [])) (sym mask)
        ∙ by_left t (Left t) (ends_content S d n (Some p)) refl where
          by_left : (t : Step) (left ending : Bool) → (is_ok (next_answer S t) && cuts_next S t) ≡ ending → flat_map (given barred S) (cond (ending && not left) (pairs_by S t) []) ≡ cond left [] (ends_with barred S t)
          by_left t true true e = refl
          by_left t true false e = refl
          by_left t false true e = ends_pairs t
          by_left t false false e = sym (given_none barred S t e) ∙ ends_pairs t

    each_content : (n : ℕ) (o : Option Piece) → at S.board n ≡ o → n < 64 → flat_map (λ d. flat_map (given barred S) (cond (has_step a n d) (pairs_of_content S n d o) [])) directions ≡ flat_map (ends_in_order barred before s) (steps_of n o)
    each_content n None here small = λ i. flat_map (λ d. nothing (has_step a n d) i) directions where
      nothing : (v : Bool) → flat_map (given barred S) (cond v [] []) ≡ []
      nothing true = refl
      nothing false = refl
    each_content n (Some p) here small = λ i. flat_map (λ d. each_piece n d p here small i) directions

    -- what the ends after those steps give is what the last steps bring about in order
    pub brings-in_order : flat_map (given_by barred) (ends_of (pairs_left S a)) ≡ brings_in_order barred before s
    unfolding pairs_left
    brings-in_order =
        flat_map-map (given_by barred) (λ (pr : Step × TurnState). state_end pr.1) (pairs_left S a)
        ∙ (flat_map-flat_map (given barred S) (pairs_from S a) (range_with_len 0 64)
        ∙ (same_numbers (λ n. flat_map (given barred S) (pairs_from S a n)) (λ n. flat_map (ends_in_order barred before s) (steps_of n (at S.board n))) 64 0
        (λ n _ small. flat_map-flat_map (given barred S) (λ d. cond (has_step a n d) (pairs_of_content S n d (at S.board n)) []) directions ∙ each_content n (at S.board n) refl small)
        ∙ sym (ap (flat_map (ends_in_order barred before s)) (candidates-is S.board)
        ∙ flat_map-flat_map (ends_in_order barred before s) (λ n. steps_of n (at S.board n)) (range_with_len 0 64))))
