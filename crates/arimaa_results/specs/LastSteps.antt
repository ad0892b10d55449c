-- The next step and the last one of a turn, in order: where two single steps may be made in either
-- order, only the one that comes first in the order of steps is.
use Rattle.std.specs.Prelude.{ℕ, Bool, false, ◌&&◌, List, [], ◌∷◌, ◌++◌, is_ok, if◌then◌else◌}
use Rattle.std.specs.List.{flat_map}
use Rattle.arimaa_board.specs.declared.position.Position.{Position}
use Rattle.arimaa_board.specs.declared.position.Step.{Step}
use Rattle.arimaa_model.specs.Plain.{candidates}
use Rattle.arimaa_region.specs.Same.{same_words}
use Rattle.arimaa_step.specs.declared.state.TurnState.{TurnState}
use Rattle.arimaa_step.specs.CommutingSteps.{commutes_before, comes_turned}
use Rattle.arimaa_step.specs.Next.{next_answer, next_state, state_end, goes_alone}
use Rattle.arimaa_step.specs.StateWords.{state_planes, state_in_planes}
use Rattle.arimaa_results.specs.Ahead.{given_by, states_by}
use Rattle.arimaa_results.specs.NextStates.{next_pairs}

-- what a step brings about as the last one, where the state accepts it
abbrev pub ends_with : List Position → TurnState → Step → List Position
ends_with barred st t = if is_ok (next_answer st t)
    then given_by barred (state_end (next_state st t)) else []

-- the same after a step s, but nothing where that is a single step, and t commutes with it and
-- comes before it
abbrev pub ends_in_order : List Position → TurnState → Step → Step → List Position
ends_in_order barred st s t =
    if goes_alone st s && commutes_before s t then [] else ends_with barred (next_state st s) t

-- what the last steps bring about after a step s, in order
abbrev pub brings_in_order : List Position → TurnState → Step → List Position
brings_in_order barred st s =
    flat_map (ends_in_order barred st s) (candidates (next_state st s).board)

-- whether this state is the next of some kept ones
abbrev pub is_next : List (List ℕ) → TurnState → Bool
is_next [] st = false
is_next (w ∷ kept) st = same_words w (state_planes st)

-- the kept states that are left after this one
abbrev pub left_after : List (List ℕ) → TurnState → List (List ℕ)
left_after [] st = []
left_after (w ∷ kept) st = if same_words w (state_planes st) then kept else w ∷ kept

-- what the step t makes after s gives, but nothing where the two made it in the other order
abbrev pub gives_in_order : {R : Type 0} → (TurnState → List R) → TurnState → Step → Step → List R
gives_in_order given st s t = if comes_turned st s t then []
    else flat_map given (states_by (next_state st s) t)

-- what the states give that the next step makes after s, in order
abbrev pub next_in_order : {R : Type 0} → (TurnState → List R) → TurnState → Step → List R
next_in_order given st s = flat_map (gives_in_order given st s) (candidates (next_state st s).board)

-- what is placed after some steps, each with the state that it makes, where that is the next kept
-- one
unfoldable pub brings_first : {R : Type 0} → (TurnState → Step → List R) → TurnState → List (List ℕ)
    → List (Step × TurnState) → List R
brings_first placed st kept [] = []
brings_first placed st kept (pr ∷ pairs) =
    (if is_next kept pr.1 then placed st pr.0 else [])
    ++ brings_first placed st (left_after kept pr.1) pairs

-- the kept states that are left after those
unfoldable pub left_of_kept : List (List ℕ) → List (Step × TurnState) → List (List ℕ)
left_of_kept kept [] = kept
left_of_kept kept (pr ∷ pairs) = left_of_kept (left_after kept pr.1) pairs

-- the same for all steps after the states that some words hold
unfoldable pub brings_last : {R : Type 0} → (TurnState → Step → List R) → Position → List (List ℕ)
    → List (List ℕ) → List R
brings_last placed p kept [] = []
brings_last placed p kept (w ∷ ws) =
    brings_first placed (state_in_planes p w) kept (next_pairs (state_in_planes p w))
    ++ brings_last placed p (left_of_kept kept (next_pairs (state_in_planes p w))) ws
