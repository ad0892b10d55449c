-- What one more step brings about, by what the end of the turn after it answers.
use Rattle.std.proofs.Common.{◌≡◌, List, [], ◌∷◌, ◌++◌, refl, sym, ◌∙◌, ap}
use Rattle.std.specs.List.{flat_map}
use Rattle.arimaa_board.specs.declared.position.Position.{Position}
use Rattle.arimaa_board.specs.declared.position.Step.{Step}
use Rattle.arimaa_model.proofs.Lemmas.Lists.{flat_map-agree, flat_map-map}
use Rattle.arimaa_step.specs.declared.accepted_steps.AcceptedSteps.{AcceptedSteps}
use Rattle.arimaa_step.specs.AcceptedSteps.{AreEnding}
use Rattle.arimaa_step.specs.declared.state.TurnState.{TurnState}
use Rattle.arimaa_step.specs.Next.{state_end}
use Rattle.arimaa_results.specs.Ahead.{next_states, given_by, brings_now, brings}
use Rattle.arimaa_results.specs.NextStates.{next_pairs, ends_of, pairs_left}
use Rattle.arimaa_results.proofs.Bringing.{brings-suc, brings-zero}
use Rattle.arimaa_results.proofs.StatePairs.{pairs_give, ending_given}

ends_give : (barred : List Position) (pairs : List (Step × TurnState)) → flat_map (λ (pr : Step × TurnState). brings_now barred pr.1) pairs ≡ flat_map (given_by barred) (ends_of pairs)
unfolding brings_now
ends_give barred [] = refl
ends_give barred (pr ∷ pairs) = ap (λ l. given_by barred (state_end pr.1) ++ l) (ends_give barred pairs)

-- one more step brings about what the ends after it give
brings-last : (barred : List Position) (st : TurnState) → brings barred 1 st ≡ flat_map (given_by barred) (ends_of (next_pairs st))
brings-last barred st =
    brings-suc barred 0 st
    ∙ (flat_map-agree (brings barred 0) (brings_now barred) (next_states st) (brings-zero barred)
    ∙ (sym (pairs_give (brings_now barred) st) ∙ ends_give barred (next_pairs st)))

-- the steps that end a move give what one more step brings about
pub brings-ending : (barred : List Position) (st : TurnState) (a : AcceptedSteps) → AreEnding st a → flat_map (given_by barred) (ends_of (pairs_left st a)) ≡ brings barred 1 st
brings-ending barred st a are =
    flat_map-map (given_by barred) (λ (pr : Step × TurnState). state_end pr.1) (pairs_left st a)
    ∙ (ending_given barred st a are
    ∙ (sym (flat_map-map (given_by barred) (λ (pr : Step × TurnState). state_end pr.1) (next_pairs st)) ∙ sym (brings-last barred st)))
