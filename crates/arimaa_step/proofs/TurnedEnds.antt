-- Single steps that commute: in either order they end a turn the same.
use Rattle.std.proofs.Common.{◌≡◌, ℕ, ◌<◌, ◌==◌, ◌&&◌, Bool, true, false, cond, Option, None, Some, Ok, Err, refl, sym, ◌∙◌, arith, ne_eqb}
use Rattle.std.specs.Prelude.{◌||◌, not, nat_le, is_ok}
use Rattle.std.proofs.lemmas.Bool.{or_left, and_parts, and_from, both_ways, and_right}
use Rattle.std.proofs.lemmas.Bool.Decides.{nat_tests}
use Rattle.arimaa_board.specs.declared.piece.Color.{Color}
use Rattle.arimaa_board.specs.declared.piece.Piece.{Piece}
use Rattle.arimaa_board.specs.declared.board.Board.{Board}
use Rattle.arimaa_board.specs.declared.position.Step.{Step}
use Rattle.arimaa_board.specs.declared.position.Position.{Position}
use Rattle.arimaa_board.specs.Board.{settle}
use Rattle.arimaa_board.specs.Words.{same_squares}
use Rattle.arimaa_model.specs.declared.fault.TurnFault.TheVariants.{Empty, Unfinished, Same}
use Rattle.arimaa_model.specs.Frozen.{is_frozen, beats}
use Rattle.arimaa_model.specs.Moves.{target, enters, fits, after, is_own, goes_back, is_single, is_half, may_pull}
use Rattle.arimaa_model.specs.Results.{position_of}
use Rattle.arimaa_step.specs.declared.state.TurnState.{TurnState}
use Rattle.arimaa_step.specs.State.{left_if}
use Rattle.arimaa_step.specs.Next.{next_state, next_answer, state_end, cuts_next, goes_alone, begins_push, ends_move, completes_push, completes_pull}
use Rattle.arimaa_step.specs.CommutingSteps.{in_zone, commutes, EndTurned}
use Rattle.arimaa_step.proofs.Turned.{may_be_turned, single_goes, outside_away, outside_to}

-- a step that goes alone is accepted
pub alone_is_ok : (st : TurnState) (s : Step) → st.count < 4 → goes_alone st s ≡ true → is_ok (next_answer st s) ≡ true
unfolding next_answer
alone_is_ok st s few alone =
    let early : nat_le 4 st.count ≡ false = grind (arith, nat_tests) in
    rw (early, alone) refl

-- states with the same start, board, number of steps and cuttings end the same
same_end : (x y : TurnState) → x.start ≡ y.start → x.board ≡ y.board → x.count ≡ y.count → x.cut ≡ y.cut → state_end x ≡ state_end y
same_end x y starts boards counts cuts = λ i.
    cond (counts i == 0) (Err Empty)
    (cond (not (cuts i)) (Err Unfinished)
    (cond (same_squares (boards i) (starts i).board) (Err Same) (Ok (position_of (boards i) (starts i)))))

-- a turn that ends has a whole cutting
ended_cuts : (st : TurnState) (q : Position) → state_end st ≡ Ok q → st.cut ≡ true
ended_cuts st q h = by_count (st.count == 0) st.cut h where
  by_count : (none cut : Bool) → cond none (Err Empty) (cond (not cut) (Err Unfinished) (cond (same_squares st.board st.start.board) (Err Same) (Ok (position_of st.board st.start)))) ≡ Ok q → cut ≡ true
  by_count true cut e = absurd (cc)
  by_count false true e = refl
  by_count false false e = absurd (cc)

-- a single step begins no push
pub begins_none : (b : Board) (side : Color) (s : Step) → is_single b side s ≡ true → is_half b side s ≡ false
unfolding is_single is_half
begins_none b side s h =
    let parts = and_parts ((fits b s && is_own side s) && not (is_frozen b s.from)) (not (goes_back s)) h in
    let two = and_parts (fits b s && is_own side s) (not (is_frozen b s.from)) parts.0 in
    let three = and_parts (fits b s) (is_own side s) two.0 in
    rw (three.0, three.1) refl

pub or_no : (x y : Bool) → y ≡ false → (x || y) ≡ true → x ≡ true
or_no true y e h = refl
or_no false y e h = absurd (both_ways y e h)

-- whether a step would enter the square that a puller left, or none left one
abbrev far_from : Option (ℕ × Piece) → Option ℕ → Type 0
far_from None o = Unit {0}
far_from (Some left) o = enters left.0 o ≡ false

pulls_none : (st : TurnState) (t : Step) (left : Option (ℕ × Piece)) → far_from left (target t) → completes_pull st t left ≡ false
pulls_none st t None far = refl
pulls_none st t (Some left) far = and_right (beats left.1 t.piece && fits st.board t) (enters left.0 (target t)) far

pub pushes_none : (st : TurnState) (t : Step) (left : Option (ℕ × Piece)) → left ≡ None → completes_push st t left ≡ false
pushes_none st t left none = rw none refl

module _ (st : TurnState) (s t : Step) (calm : settle st.board ≡ st.board) (cut : st.cut ≡ true) (few : st.count < 3) (first : is_single st.board st.start.side s ≡ true) (far : commutes s t ≡ true) where
  abbrev side : Color
  side = st.start.side

  -- a step that commutes does not enter the square that was left
  enters_other : enters s.from (target t) ≡ false
  unfolding commutes
  enters_other =
      let go = single_goes st.board side s calm first in
      let parts = and_parts (not (in_zone s t.from)) _ far in
      let out = outside_to s (target t) parts.1 in
      let away = outside_away s go.to out.0 go.is out.2 in
      rw out.1 (ne_eqb out.0 s.from away.apart.0)

  left_far : (v : Bool) → far_from (left_if v s) (target t)
  left_far true = enters_other
  left_far false = tt

  pub no_push : (next_state st s).open_push ≡ None
  no_push =
      let begins : begins_push st s ≡ false = rw cut (begins_none st.board side s first) in
      rw begins refl

  -- a step that commutes ends neither a push nor the pull
  ends_none : ends_move (next_state st s) t ≡ false
  ends_none =
      let push : completes_push (next_state st s) t (next_state st s).open_push ≡ false = pushes_none (next_state st s) t (next_state st s).open_push no_push in
      let pull : completes_pull (next_state st s) t (next_state st s).open_pull ≡ false = pulls_none (next_state st s) t (next_state st s).open_pull (left_far (goes_alone st s && may_pull (after st.board s) s)) in
      (λ i. push i || pull i)

  -- a step that commutes and ends the turn is a single one
  pub ended_alone : (q : Position) → state_end (next_state (next_state st s) t) ≡ Ok q → is_single (after st.board s) side t ≡ true
  ended_alone q h =
      let cuts : cuts_next (next_state st s) t ≡ true = ended_cuts (next_state (next_state st s) t) q h in
      let alone : goes_alone (next_state st s) t ≡ true = or_no (goes_alone (next_state st s) t) (ends_move (next_state st s) t) ends_none cuts in
      (and_parts (next_state st s).cut (is_single (after st.board s) side t) alone).1

  -- the turn ends the same with the two steps turned round
  pub ends_commute : (q : Position) → state_end (next_state (next_state st s) t) ≡ Ok q → EndTurned st s t
  ends_commute q h =
      let cuts : cuts_next (next_state st s) t ≡ true = ended_cuts (next_state (next_state st s) t) q h in
      let second = ended_alone q h in
      let turned = may_be_turned st.board side s t calm first second far in
      let alone_t : goes_alone st t ≡ true = and_from st.cut (is_single st.board side t) cut turned.first in
      let cut_t : (next_state st t).cut ≡ true = or_left (goes_alone st t) (ends_move st t) alone_t in
      let alone_s : goes_alone (next_state st t) s ≡ true = and_from (next_state st t).cut (is_single (after st.board t) side s) cut_t turned.second in
      let cut_both : (next_state (next_state st t) s).cut ≡ true = or_left (goes_alone (next_state st t) s) (ends_move (next_state st t) s) alone_s in
      record {
        first = alone_is_ok st t (omega arith) alone_t;
        second = alone_is_ok (next_state st t) s (omega arith) alone_s;
        end = same_end (next_state (next_state st t) s) (next_state (next_state st s) t) refl turned.board refl (cut_both ∙ sym cuts);
      }
