-- The states that one more step makes, each with its step.
use Rattle.std.specs.Prelude.{◌≡◌, ℕ, ◌<◌, ◌==◌, Bool, true, false, ◌&&◌, not, List, [], ◌++◌, map, Option, None, Some, IfSome, IfNone, Result, IsOk, if◌then◌else◌, ⊤}
use Rattle.std.specs.List.{flat_map, range_with_len}
use Rattle.arimaa_board.specs.declared.square.Dir.{Dir}
use Rattle.arimaa_board.specs.declared.square.Dir.TheVariants.{North, East, South, West}
use Rattle.arimaa_board.specs.declared.piece.Piece.{Piece}
use Rattle.std.specs.Option.{option_map, option_to_list}
use Rattle.arimaa_board.specs.declared.position.Position.{Position}
use Rattle.arimaa_board.specs.declared.position.Step.{Step}
use Rattle.arimaa_model.specs.declared.fault.TurnFault.{TurnFault}
use Rattle.arimaa_board.specs.Board.{at}
use Rattle.arimaa_board.specs.Masks.{is_in}
use Rattle.arimaa_board.specs.Square.{directions}
use Rattle.arimaa_model.specs.Plain.{candidates}
use Rattle.arimaa_model.specs.Results.{step_of}
use Rattle.arimaa_step.specs.declared.accepted_steps.AcceptedSteps.{AcceptedSteps}
use Rattle.arimaa_step.specs.declared.state.TurnState.{TurnState}
use Rattle.arimaa_step.specs.AcceptedSteps.{accepts, ends_by, mask_towards}
use Rattle.arimaa_step.specs.Next.{next_answer, next_state, state_end}
use Rattle.arimaa_results.specs.Ahead.{states_by}

-- the state that a step makes, with the step, in a list
abbrev pub pairs_by : TurnState → Step → List (Step × TurnState)
pairs_by st s = map (λ next. (s, next)) (states_by st s)

-- the states that one more step makes, each with its step, in the order of the steps
unfoldable pub next_pairs : TurnState → List (Step × TurnState)
next_pairs st = flat_map (pairs_by st) (candidates st.board)

-- the same for the step of this content of square n in a direction
abbrev pub pairs_of_content : TurnState → ℕ → Dir → Option Piece → List (Step × TurnState)
pairs_of_content st n d None = []
pairs_of_content st n d (Some p) = pairs_by st (step_of n d p)

-- whether the step from square n in a direction is among some steps
abbrev pub has_step : AcceptedSteps → ℕ → Dir → Bool
has_step steps n d = is_in (mask_towards steps d) n

-- the states by the steps from square n among some steps
abbrev pub pairs_from : TurnState → AcceptedSteps → ℕ → List (Step × TurnState)
pairs_from st steps n =
    flat_map (λ d. if has_step steps n d then pairs_of_content st n d (at st.board n) else [])
    directions

-- the states by some steps, in the order of the steps
unfoldable pub pairs_left : TurnState → AcceptedSteps → List (Step × TurnState)
pairs_left st steps = flat_map (pairs_from st steps) (range_with_len 0 64)

-- the state accepts each of some steps
abbrev pub AreAllAccepted : TurnState → AcceptedSteps → Type 0
AreAllAccepted st steps = (d : Dir) (n : ℕ) → n < 64 → has_step steps n d ≡ true
    → accepts st d n ≡ true

-- a state ends a move by each of some steps
abbrev pub AreAllEnding : TurnState → AcceptedSteps → Type 0
AreAllEnding st steps = (d : Dir) (n : ℕ) → n < 64 → has_step steps n d ≡ true
    → ends_by st d n ≡ true

-- what the state of a step gives
abbrev pub next_gives : {R : Type 0} → (TurnState → List R) → Step × TurnState → List R
next_gives given pr = given pr.1

-- whether two directions are the same
abbrev pub same_dir : Dir → Dir → Bool
same_dir North North = true
same_dir East East = true
same_dir South South = true
same_dir West West = true
same_dir _ _ = false

-- of the directions in the order north, east, south, west, none before this one passes a test
abbrev pub IsFirstDirection : (Dir → Bool) → Dir → Type 0
IsFirstDirection t North = ⊤
IsFirstDirection t East = t North ≡ false
IsFirstDirection t South = (t North ≡ false) × (t East ≡ false)
IsFirstDirection t West = (t North ≡ false) × (t East ≡ false) × (t South ≡ false)

-- a step was taken from some steps: it was the first, and the others are left
pub record IsTaken (old : AcceptedSteps) (m : ℕ) (d : Dir) (new : AcceptedSteps) : Type 0 where
  -- its square is on the board
  pub on_board : m < 64
  -- it is one of them
  pub there : has_step old m d ≡ true
  -- no step is from a lower square
  pub none_lower : (n : ℕ) (e : Dir) → n < m → has_step old n e ≡ false
  -- nor from its own in an earlier direction
  pub none_earlier : IsFirstDirection (has_step old m) d
  -- the others are left
  pub left : (n : ℕ) (e : Dir) → n < 64
      → has_step new n e ≡ (has_step old n e && not (n == m && same_dir e d))

-- no step was taken exactly where there is none, else the first one
abbrev pub IsFirstTaken : AcceptedSteps → Option (ℕ × Dir) → AcceptedSteps → Type 0
IsFirstTaken old None new = (new ≡ old) × ((n : ℕ) (e : Dir) → n < 64 → has_step old n e ≡ false)
IsFirstTaken old (Some s) new = IsTaken old s.0 s.1 new

-- what the ends of turns answer after each of some steps
abbrev pub ends_of : List (Step × TurnState) → List (Result Position TurnFault)
ends_of pairs = map (λ pr. state_end pr.1) pairs

-- each step with what the end of the turn answers after it
abbrev pub last_of : List (Step × TurnState) → List (Step × Result Position TurnFault)
last_of pairs = map (λ pr. (pr.0, state_end pr.1)) pairs

-- no step was taken exactly where the state accepts none of them, else the first, with the state
-- that it makes
pub record IsStepTaken (st : TurnState) (old : AcceptedSteps) (taken : Option Step)
    (new : AcceptedSteps) : Type 0 where
  -- the state accepts the step that was taken
  pub accepted : IfSome taken (λ s. IsOk (next_answer st s))
  -- and those that are left
  pub left_accepted : AreAllAccepted st new
  -- the states by them are the one that the step makes, and then those by the steps that are left
  pub pairs : pairs_left st old
      ≡ option_to_list (option_map (λ s. (s, next_state st s)) taken) ++ pairs_left st new
  -- none is left where none was taken
  pub none : IfNone taken (pairs_left st old ≡ [])
