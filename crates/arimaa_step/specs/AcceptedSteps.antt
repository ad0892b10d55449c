-- The steps that a state accepts, as masks: one a direction, with bit n for the piece on square n.
use Rattle.std.specs.Prelude.{ℕ, ◌==◌, Bool, false, ◌&&◌, Option, None, Some, is_some, is_ok, if◌then◌else◌}
use Rattle.arimaa_board.specs.declared.piece.Piece.{Piece}
use Rattle.arimaa_board.specs.declared.piece.Kind.TheVariants.{Rabbit}
use Rattle.arimaa_board.specs.declared.square.Dir.{Dir}
use Rattle.arimaa_board.specs.declared.square.Dir.TheVariants.{North, East, South, West}
use Rattle.arimaa_board.specs.Piece.{piece_of}
use Rattle.arimaa_board.specs.Board.{at, holds}
use Rattle.arimaa_board.specs.Masks.{IsMaskOf}
use Rattle.arimaa_board.specs.declared.board.Board.{Board}
use Rattle.arimaa_model.specs.Frozen.{is_unfrozen, beats, passes_at}
use Rattle.arimaa_model.specs.Moves.{can_push, is_pushable}
use Rattle.arimaa_model.specs.Results.{step_of}
use Rattle.arimaa_step.specs.declared.state.TurnState.{TurnState}
use Rattle.arimaa_step.specs.declared.accepted_steps.AcceptedSteps.{AcceptedSteps}
use Rattle.arimaa_step.specs.declared.accepted_steps.Movers.{Movers}
use Rattle.arimaa_step.specs.Next.{next_answer, cuts_next}

-- whether a state accepts the step of what stands on a square in a direction
abbrev pub accepts_content : TurnState → Dir → ℕ → Option Piece → Bool
accepts_content st d n None = false
accepts_content st d n (Some p) = is_ok (next_answer st (step_of n d p))

-- whether a state accepts the step of the piece on a square in a direction
abbrev pub accepts : TurnState → Dir → ℕ → Bool
accepts st d n = accepts_content st d n (at st.board n)

-- the mask of a direction
abbrev pub mask_towards : AcceptedSteps → Dir → ℕ
mask_towards a North = a.north
mask_towards a East = a.east
mask_towards a South = a.south
mask_towards a West = a.west

-- in each direction the mask has the squares from which the state accepts a step
abbrev pub AreAccepted : TurnState → AcceptedSteps → Type 0
AreAccepted st steps = (d : Dir) → IsMaskOf (accepts st d) (mask_towards steps d)

-- whether a state accepts the step of what stands on a square in a direction, and the steps are
-- then whole moves
abbrev pub ends_content : TurnState → Dir → ℕ → Option Piece → Bool
ends_content st d n None = false
ends_content st d n (Some p) = is_ok (next_answer st (step_of n d p))
    && cuts_next st (step_of n d p)

-- whether a state accepts the step of the piece on a square in a direction, and the steps are then
-- whole moves
abbrev pub ends_by : TurnState → Dir → ℕ → Bool
ends_by st d n = ends_content st d n (at st.board n)

-- in each direction the mask has the squares from which a step ends a move
abbrev pub AreEnding : TurnState → AcceptedSteps → Type 0
AreEnding st steps = (d : Dir) → IsMaskOf (ends_by st d) (mask_towards steps d)

-- whether what stands on a square is a piece of the side to move that may make a single step
abbrev pub may_go : TurnState → ℕ → Bool
may_go st n = st.cut && is_unfrozen st.board st.start.side n

-- whether what stands on a square is an enemy that may be pushed
abbrev pub may_be_pushed : TurnState → ℕ → Bool
may_be_pushed st n = st.cut && is_pushable st.board st.start.side n (at st.board n)

-- whether a square is the one that a piece left
abbrev pub is_left : Option (ℕ × Piece) → ℕ → Bool
is_left None n = false
is_left (Some left) n = n == left.0

-- whether what stands on a square could make the open push
abbrev pub may_push : TurnState → Option (ℕ × Piece) → ℕ → Bool
may_push st None n = false
may_push st (Some left) n = if st.count == 1 then can_push st.start.board left.1 (Some n)
    else can_push st.board left.1 (Some n)

-- whether what stands on a square is weaker than the puller, and its enemy
abbrev pub may_be_pulled : Board → Option (ℕ × Piece) → ℕ → Bool
may_be_pulled b None n = false
may_be_pulled b (Some left) n = passes_at b (λ q. beats left.1 q) (Some n)

-- the masks of what may move after the steps of a state
pub record AreMovers (st : TurnState) (movers : Movers) : Type 0 where
  -- every piece
  pub here : IsMaskOf (λ n. is_some (at st.board n)) movers.here
  -- those that may make a single step
  pub going : IsMaskOf (may_go st) movers.going
  -- the rabbits of the side to move
  pub rabbits : IsMaskOf (λ n. holds (piece_of st.start.side Rabbit) (at st.board n)) movers.rabbits
  -- the enemies that may be pushed
  pub pushed : IsMaskOf (may_be_pushed st) movers.pushed
  -- the square that the open push left
  pub push_left : IsMaskOf (is_left st.open_push) movers.push_left
  -- the pieces that could make that push
  pub pushers : IsMaskOf (may_push st st.open_push) movers.pushers
  -- the square that the puller left
  pub pull_left : IsMaskOf (is_left st.open_pull) movers.pull_left
  -- the pieces that it could pull
  pub pulled : IsMaskOf (may_be_pulled st.board st.open_pull) movers.pulled
