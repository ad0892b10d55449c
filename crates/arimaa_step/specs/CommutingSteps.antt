-- Steps that commute: two single steps that may be made in either order, and lead to the same
-- board.
use Rattle.std.specs.Prelude.{◌≡◌, ℕ, ◌<◌, ◌==◌, Bool, ◌&&◌, ◌||◌, not, IsTrue, Ok, is_ok, is_none, nat_lt}
use Rattle.arimaa_board.specs.declared.piece.Color.{Color}
use Rattle.arimaa_board.specs.declared.piece.Piece.{Piece}
use Rattle.arimaa_board.specs.declared.square.Dir.{Dir}
use Rattle.arimaa_board.specs.declared.square.Dir.TheVariants.{North, East, South, West}
use Rattle.arimaa_board.specs.declared.board.Board.{Board}
use Rattle.arimaa_board.specs.declared.position.Step.{Step}
use Rattle.arimaa_board.specs.declared.position.Position.{Position}
use Rattle.arimaa_board.specs.Square.{is_trap}
use Rattle.arimaa_board.specs.Piece.{other_color}
use Rattle.arimaa_board.specs.Board.{at, holds_color, settle}
use Rattle.arimaa_board.specs.Masks.{IsMaskOf, passes, is_beside}
use Rattle.arimaa_model.specs.Moves.{target, enters, after, is_single}
use Rattle.arimaa_model.specs.Results.{step_of}
use Rattle.arimaa_step.specs.declared.state.TurnState.{TurnState}
use Rattle.arimaa_step.specs.declared.accepted_steps.AcceptedSteps.{AcceptedSteps}
use Rattle.arimaa_step.specs.declared.earlier_steps.EarlierSteps.{EarlierSteps}
use Rattle.arimaa_step.specs.AcceptedSteps.{accepts, ends_by, mask_towards}
use Rattle.arimaa_step.specs.Next.{next_state, next_answer, goes_alone, state_end}

-- whether a step leaves or enters a square
abbrev pub is_of : Step → ℕ → Bool
is_of s n = n == s.from || enters n (target s)

-- whether a square is one of those that a step leaves and enters, or beside one of them
unfoldable pub is_close : Step → ℕ → Bool
is_close s n = is_of s n || is_beside (is_of s) n

-- whether a step may take a piece off this trap: it leaves or enters the trap, or a square beside
-- it
abbrev pub is_trap_of : Step → ℕ → Bool
is_trap_of s n = is_trap n && is_close s n

-- whether a step may change what stands on a square or beside it: the square is close to the step,
-- or beside a trap on which the step may take a piece off
unfoldable pub in_zone : Step → ℕ → Bool
in_zone s n = is_close s n || is_beside (is_trap_of s) n

-- whether a second step commutes with a first one: the squares that it leaves and enters lie
-- outside the zone of the first
unfoldable pub commutes : Step → Step → Bool
commutes s t = not (in_zone s t.from) && passes (λ n. not (in_zone s n)) (target t)

-- whether a step commutes with a given one and comes before it in the order of steps: by square,
-- since steps from one square don't commute
abbrev pub commutes_before : Step → Step → Bool
commutes_before s t = commutes s t && nat_lt t.from s.from

-- the mask of a direction
abbrev pub earlier_towards : EarlierSteps → Dir → ℕ
earlier_towards e North = e.north
earlier_towards e East = e.east
earlier_towards e South = e.south
earlier_towards e West = e.west

-- in each direction the mask has the squares from which a step, of whichever piece, commutes with s
-- and comes before it
abbrev pub AreEarlier : Step → EarlierSteps → Type 0
AreEarlier s earlier = (d : Dir) (p : Piece)
    → IsMaskOf (λ n. commutes_before s (step_of n d p)) (earlier_towards earlier d)

-- in each direction the mask has the squares from which the state accepts a step that isn't one of
-- those
abbrev pub AreOthers : TurnState → Step → AcceptedSteps → Type 0
AreOthers st s steps = (d : Dir) (p : Piece)
    → IsMaskOf (λ n. accepts st d n && not (commutes_before s (step_of n d p)))
    (mask_towards steps d)

-- in each direction the mask has the squares from which a step, of whichever piece, ends a move
-- after a given step, and doesn't commute with that one, if it is a single step, and come before it
abbrev pub AreEndingInOrder : TurnState → Step → AcceptedSteps → Type 0
AreEndingInOrder st s steps = (d : Dir) (p : Piece)
    → IsMaskOf (λ n. ends_by (next_state st s) d n
    && not (goes_alone st s && commutes_before s (step_of n d p))) (mask_towards steps d)

-- whether a piece of the side to move stands on a square, and no enemy beside it: no pull may
-- follow its step
abbrev pub moves_calmly : TurnState → ℕ → Bool
moves_calmly st n = holds_color st.start.side (at st.board n)
    && not (is_beside (λ m. holds_color (other_color st.start.side) (at st.board m)) n)

-- whether a step is a single one after which no pull may follow
abbrev pub goes_calmly : TurnState → Step → Bool
goes_calmly st s = is_none (next_state st s).open_pull && goes_alone st s

-- whether a step after another makes what the two make in the other order, which comes before: they
-- commute, and no pull may follow either
abbrev pub comes_turned : TurnState → Step → Step → Bool
comes_turned st s t = goes_calmly st s
    && (commutes_before s t && moves_calmly (next_state st s) t.from)

-- in each direction the mask has the squares from which a step, of whichever piece, is accepted
-- after a given step, and isn't made in the other order before
abbrev pub AreAcceptedInOrder : TurnState → Step → AcceptedSteps → Type 0
AreAcceptedInOrder st s steps = (d : Dir) (p : Piece)
    → IsMaskOf (λ n. accepts (next_state st s) d n && not (comes_turned st s (step_of n d p)))
    (mask_towards steps d)

-- two steps of a side that were made in this order may be turned round: each is a single step there
-- too, and the board after both is the same
pub record MayBeTurned (b : Board) (side : Color) (s t : Step) : Type 0 where
  pub first : IsTrue (is_single b side t)
  pub second : IsTrue (is_single (after b t) side s)
  pub board : after (after b t) s ≡ after (after b s) t

-- on a board on which no trap is due, single steps that commute may be turned round
abbrev pub StepsCommute : Type 0
StepsCommute = (b : Board) (side : Color) (s t : Step) → settle b ≡ b → IsTrue (is_single b side s)
    → IsTrue (is_single (after b s) side t) → IsTrue (commutes s t) → MayBeTurned b side s t

-- a state accepts two steps turned round as well, and the turn then ends the same
pub record EndTurned (st : TurnState) (s t : Step) : Type 0 where
  pub first : IsTrue (is_ok (next_answer st t))
  pub second : IsTrue (is_ok (next_answer (next_state st t) s))
  pub end : state_end (next_state (next_state st t) s) ≡ state_end (next_state (next_state st s) t)

-- a state after whole moves, with two steps to go and no trap due, and in it a single step: what a
-- step that commutes with that one ends the turn with, both end it with when turned round
abbrev pub EndsCommute : Type 0
EndsCommute = (st : TurnState) (s t : Step) (q : Position) → settle st.board ≡ st.board
    → IsTrue st.cut → st.count < 3
    → IsTrue (is_single st.board st.start.side s) → IsTrue (commutes s t)
    → state_end (next_state (next_state st s) t) ≡ Ok q → EndTurned st s t
