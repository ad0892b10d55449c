-- What the next steps in order give, by the masks of the steps that are accepted in order.
use Rattle.std.proofs.Common.{◌≡◌, ℕ, ◌<◌, ◌&&◌, List, [], ◌∷◌, Bool, true, false, cond, Option, None, Some, refl, sym, ◌∙◌, ap}
use Rattle.std.specs.Prelude.{is_ok, not}
use Rattle.std.specs.List.{flat_map, range_with_len}
use Rattle.std.proofs.lemmas.Bool.{and_parts}
use Rattle.arimaa_board.specs.declared.piece.Piece.{Piece}
use Rattle.arimaa_board.specs.declared.square.Dir.{Dir}
use Rattle.arimaa_board.specs.declared.position.Step.{Step}
use Rattle.arimaa_board.specs.Board.{at}
use Rattle.arimaa_board.specs.Square.{directions}
use Rattle.arimaa_model.specs.Plain.{steps_of}
use Rattle.arimaa_model.specs.Results.{step_of}
use Rattle.arimaa_model.proofs.Lemmas.Lists.{flat_map-flat_map}
use Rattle.arimaa_model.proofs.Lemmas.Reaching.{candidates-is}
use Rattle.arimaa_step.specs.declared.accepted_steps.AcceptedSteps.{AcceptedSteps}
use Rattle.arimaa_step.specs.declared.state.TurnState.{TurnState}
use Rattle.arimaa_step.specs.AcceptedSteps.{accepts, accepts_content, mask_towards}
use Rattle.arimaa_step.specs.CommutingSteps.{comes_turned, AreAcceptedInOrder}
use Rattle.arimaa_step.specs.Next.{next_answer, next_state}
use Rattle.arimaa_results.specs.Ahead.{states_by}
use Rattle.arimaa_results.specs.LastSteps.{gives_in_order, next_in_order}
use Rattle.arimaa_results.specs.NextStates.{AreAllAccepted, next_gives, pairs_by, pairs_of_content, has_step, pairs_from, pairs_left}
use Rattle.arimaa_results.proofs.FirstSteps.{in_mask}
use Rattle.arimaa_results.proofs.StatePairs.{pairs_by-is, states_by-is, same_numbers}

module _ (before : TurnState) (s : Step) (a : AcceptedSteps) (are : AreAcceptedInOrder before s a) where
  abbrev S : TurnState
  S = next_state before s

  abbrev Left : Step → Bool
  Left t = comes_turned before s t

  -- whichever piece
  pub in_order_accepted : AreAllAccepted S a
  in_order_accepted d n small there =
      (and_parts (accepts S d n) (not (Left (step_of n d s.piece))) (sym (in_mask (λ m. accepts S d m && not (Left (step_of m d s.piece))) (mask_towards a d) n (are d s.piece) small) ∙ there)).0

  module _ {R : Type 0} (given : TurnState → List R) where
    -- what a step gives by its pairs
    gives_pairs : (t : Step) → flat_map (next_gives given) (pairs_by S t) ≡ flat_map given (states_by S t)
    gives_pairs t =
        ap (flat_map (next_gives given)) (pairs_by-is S t)
        ∙ (elim (is_ok (next_answer S t)) as (λ v. flat_map (next_gives given) (cond v ((t, next_state S t) ∷ []) []) ≡ flat_map given (cond v (next_state S t ∷ []) [])) [ true ↦ refl | false ↦ refl ]
        ∙ ap (flat_map given) (sym (states_by-is S t)))

    none_gives : (t : Step) → is_ok (next_answer S t) ≡ false → [] ≡ flat_map given (states_by S t)
    none_gives t stuck = sym (ap (flat_map given) (states_by-is S t ∙ ap (λ v. cond v (next_state S t ∷ []) []) stuck))

    -- the masks leave out what isn't accepted, and what comes in the other order
    each_piece : (n : ℕ) (d : Dir) (p : Piece) → at S.board n ≡ Some p → n < 64 → flat_map (next_gives given) (cond (has_step a n d) (pairs_by S (step_of n d p)) []) ≡ gives_in_order given before s (step_of n d p)
    each_piece n d p here small =
        let t = step_of n d p in
        let mask : (accepts_content S d n (Some p) && not (Left t)) ≡ has_step a n d =
        sym (ap (λ o. accepts_content S d n o && not (Left t)) here) ∙ sym (in_mask (λ m. accepts S d m && not (Left (step_of m d p))) (mask_towards a d) n (are d p) small) in
        ap (λ v. flat_map (next_gives given) (cond v (pairs_by S t) [])) (sym mask)
        ∙ by_left t (Left t) (accepts_content S d n (Some p)) refl where
          by_left : (t : Step) (left ok : Bool) → is_ok (next_answer S t) ≡ ok → flat_map (next_gives given) (cond (ok && not left) (pairs_by S t) []) ≡ cond left [] (flat_map given (states_by S t))
          by_left t true true e = refl
          by_left t true false e = refl
          by_left t false true e = gives_pairs t
          by_left t false false e = none_gives t e

    each_content : (n : ℕ) (o : Option Piece) → at S.board n ≡ o → n < 64 → flat_map (λ d. flat_map (next_gives given) (cond (has_step a n d) (pairs_of_content S n d o) [])) directions ≡ flat_map (gives_in_order given before s) (steps_of n o)
    each_content n None here small = λ i. flat_map (λ d. nothing (has_step a n d) i) directions where
      nothing : (v : Bool) → flat_map (next_gives given) (cond v [] []) ≡ []
      nothing true = refl
      nothing false = refl
    each_content n (Some p) here small = λ i. flat_map (λ d. each_piece n d p here small i) directions

    -- what the states after those steps give is what the next steps in order do
    pub gives-in_order : flat_map (next_gives given) (pairs_left S a) ≡ next_in_order given before s
    unfolding pairs_left
    gives-in_order =
        flat_map-flat_map (next_gives given) (pairs_from S a) (range_with_len 0 64)
        ∙ (same_numbers (λ n. flat_map (next_gives given) (pairs_from S a n)) (λ n. flat_map (gives_in_order given before s) (steps_of n (at S.board n))) 64 0
        (λ n _ small. flat_map-flat_map (next_gives given) (λ d. cond (has_step a n d) (pairs_of_content S n d (at S.board n)) []) directions ∙ each_content n (at S.board n) refl small)
        ∙ sym (ap (flat_map (gives_in_order given before s)) (candidates-is S.board)
        ∙ flat_map-flat_map (gives_in_order given before s) (λ n. steps_of n (at S.board n)) (range_with_len 0 64)))
