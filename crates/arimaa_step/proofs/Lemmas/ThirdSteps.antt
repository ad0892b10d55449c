-- A third step that commutes with the second and comes before it, where no pull may follow either, makes no new state.
use Rattle.std.proofs.Common.{◌≡◌, ℕ, ◌+◌, ◌<◌, ◌==◌, ◌&&◌, Bool, true, false, cond, Option, None, Some, refl, sym, ◌∙◌, ap, subst, arith}
use Rattle.std.specs.Prelude.{◌||◌, not, nat_lt, is_ok, is_none}
use Rattle.std.proofs.lemmas.Bool.{or_left, and_parts, and_from, both_ways, true≢false, ltb-true, false_from_ne_true}
use Rattle.arimaa_board.specs.declared.piece.Color.{Color}
use Rattle.arimaa_board.specs.declared.piece.Piece.{Piece}
use Rattle.arimaa_board.specs.declared.square.Dir.{Dir}
use Rattle.arimaa_board.specs.declared.board.Board.{Board}
use Rattle.arimaa_board.specs.declared.position.Step.{Step}
use Rattle.arimaa_board.specs.Piece.{other_color}
use Rattle.arimaa_board.specs.Square.{next_square, directions}
use Rattle.arimaa_board.specs.Board.{at, moved, settle, holds, holds_color, same_color}
use Rattle.arimaa_board.specs.ColorLaws.{other_color-same, same_color-refl}
use Rattle.arimaa_board.specs.Masks.{passes, is_beside}
use Rattle.arimaa_model.specs.Frozen.{is_frozen, beats, passes_at}
use Rattle.arimaa_model.specs.Moves.{fits, is_free, target, after, is_own, goes_back, is_single, is_half, has_pusher, may_pull}
use Rattle.arimaa_model.specs.Plain.{candidates}
use Rattle.arimaa_model.proofs.Lemmas.Members.{In}
use Rattle.arimaa_model.proofs.Lemmas.Pushers.{list_any-mono, kept_some, no_friend, after_is, after_settled, held_piece, at-settle}
use Rattle.arimaa_model.proofs.Lemmas.Shades.{across}
use Rattle.arimaa_step.specs.declared.state.TurnState.{TurnState}
use Rattle.arimaa_step.specs.State.{left_if}
use Rattle.arimaa_step.specs.Next.{next_state, next_answer, cuts_next, goes_alone, begins_push, ends_move, completes_push, completes_pull}
use Rattle.arimaa_step.specs.CommutingSteps.{commutes, commutes_before, moves_calmly, goes_calmly, comes_turned}
use Rattle.arimaa_step.proofs.Lemmas.AnswerLaws.{ok_parts, moves_fit}
use Rattle.arimaa_step.proofs.Lemmas.FourthSteps.{goes_in}
use Rattle.arimaa_step.proofs.Sameness.{color_is}
use Rattle.arimaa_step.proofs.Turned.{single_goes, may_be_turned, whole, at-moved}
use Rattle.arimaa_step.proofs.TurnedEnds.{alone_is_ok, begins_none, or_no, pushes_none, no_push}

-- the piece of a single step is one of the side
single_own : (m : Board) (side : Color) (t : Step) → is_single m side t ≡ true → same_color t.piece.color side ≡ true
unfolding is_single
single_own m side t h =
    let parts = and_parts ((fits m t && is_own side t) && not (is_frozen m t.from)) (not (goes_back t)) h in
    let two = and_parts (fits m t && is_own side t) (not (is_frozen m t.from)) parts.0 in
    (and_parts (fits m t) (is_own side t) two.0).1

-- what a test finds on a square, by what stands there
tested : (W : Piece → Bool) (b : Board) (y : ℕ) → passes_at b W (Some y) ≡ true → (q : Piece) × (at b y ≡ Some q) × (W q ≡ true)
tested W b y h = by_content (at b y) refl h where
  by_content : (o : Option Piece) → at b y ≡ o → passes_at b W (Some y) ≡ true → (q : Piece) × (at b y ≡ Some q) × (W q ≡ true)
  by_content None e there = let none : passes_at b W (Some y) ≡ false = rw e refl in absurd (true≢false (sym there ∙ none))
  by_content (Some q) e there = let some : passes_at b W (Some y) ≡ W q = rw e refl in (q, e, sym some ∙ there)

module _ (m : Board) (side : Color) (t : Step) (calm : settle m ≡ m) (single : is_single m side t ≡ true) where
  -- an enemy that stands on a square after a single step stood there before
  enemy_stays : (y : ℕ) (q : Piece) → y < 64 → same_color side q.color ≡ false → at (after m t) y ≡ Some q → at m y ≡ Some q
  unfolding fits
  enemy_stays y q small enemy there =
      let go = single_goes m side t calm single in
      let g = go.to in
      let f = t.from in
      let stood : at (moved m f g) y ≡ Some q = kept_some (moved m f g) y (at (moved m f g) y) q (sym (at-settle (moved m f g) y small) ∙ (ap (λ b. at b y) (sym (after_is m t g go.is)) ∙ there)) in
      let here : at m f ≡ Some t.piece = held_piece t.piece (at m f) (and_parts (holds t.piece (at m f)) (is_free m (target t)) go.fit).0 in
      by_square (y == g) (y == f) (sym (at-moved m f g y (whole m calm) go.from_inside go.to_inside) ∙ stood) here where
        by_square : (entered left : Bool) → cond entered (at m t.from) (cond left None (at m y)) ≡ Some q → at m t.from ≡ Some t.piece → at m y ≡ Some q
        by_square true left e here =
            let same : Some t.piece ≡ Some q = sym here ∙ e in
            let is : t.piece ≡ q = cc same in
            absurd (both_ways (same_color side q.color) enemy (ap (λ (p : Piece). same_color side p.color) (sym is) ∙ (ap (λ (c : Color). same_color c t.piece.color) (sym (color_is t.piece.color side (single_own m side t single))) ∙ same_color-refl t.piece.color)))
        by_square false true e here = absurd (cc e)
        by_square false false e here = e

  -- no pull may follow a step of the side where none might before
  pub pull_stays : (u : Step) → u.from < 64 → same_color u.piece.color side ≡ true → may_pull m u ≡ false → may_pull (after m t) u ≡ false
  pull_stays u small own none =
      false_from_ne_true (may_pull (after m t) u) (λ h. both_ways (may_pull m u) none
      (list_any-mono (λ d. passes_at (after m t) W (next_square u.from d)) (λ d. passes_at m W (next_square u.from d)) directions (λ d e. one d (next_square u.from d) refl e) h)) where
        W : Piece → Bool
        W q = beats u.piece q

        one : (d : Dir) (o : Option ℕ) → next_square u.from d ≡ o → passes_at (after m t) W o ≡ true → passes_at m W o ≡ true
        one d None to e = e
        one d (Some y) to e =
            let found = tested W (after m t) y e in
            let enemy : same_color side found.0.color ≡ false = ap (λ (c : Color). same_color c found.0.color) (sym (color_is u.piece.color side own)) ∙ no_friend u.piece found.0 found.2 in
            let before : at m y ≡ Some found.0 = enemy_stays y found.0 (across u.from d y small to).inside enemy found.1 in
            rw before found.2

-- no pull may follow the step of a piece without an enemy beside it
calm_pulls : (b : Board) (side : Color) (t : Step) → same_color t.piece.color side ≡ true → is_beside (λ m. holds_color (other_color side) (at b m)) t.from ≡ false → may_pull b t ≡ false
calm_pulls b side t own alone =
    false_from_ne_true (may_pull b t) (λ h. both_ways (is_beside E t.from) alone
    (list_any-mono (λ d. passes_at b W (next_square t.from d)) (λ d. passes E (next_square t.from d)) directions (λ d e. one (next_square t.from d) e) h)) where
      W : Piece → Bool
      W q = beats t.piece q

      E : ℕ → Bool
      E n = holds_color (other_color side) (at b n)

      one : (o : Option ℕ) → passes_at b W o ≡ true → passes E o ≡ true
      one None e = e
      one (Some y) e =
          let found = tested W b y e in
          let enemy : same_color side found.0.color ≡ false = ap (λ (c : Color). same_color c found.0.color) (sym (color_is t.piece.color side own)) ∙ no_friend t.piece found.0 found.2 in
          let there : holds_color (other_color side) (Some found.0) ≡ true = other_color-same side found.0.color ∙ ap not enemy in
          rw found.1 there

none_is : (o : Option (ℕ × Piece)) → is_none o ≡ true → o ≡ None
none_is None h = refl
none_is (Some l) h = absurd (true≢false (sym h))

-- the pull that stands open after single steps
left_none : (alone pulls : Bool) (s : Step) → alone ≡ true → is_none (left_if (alone && pulls) s) ≡ true → pulls ≡ false
left_none true true s e h = absurd (true≢false (sym h))
left_none true false s e h = refl
left_none false pulls s e h = absurd (true≢false (sym e))

no_half : (b : Board) (side : Color) (s : Step) → same_color s.piece.color side ≡ true → is_half b side s ≡ false
unfolding is_half
no_half b side s own = by_fit (fits b s) where
  by_fit : (v : Bool) → ((v && not (is_own side s)) && has_pusher b s.piece s.from) ≡ false
  by_fit true = rw own refl
  by_fit false = refl

-- two steps turned round make the same state, and are accepted
pub record IsTurned (st : TurnState) (s t : Step) : Type 0 where
  pub first : is_ok (next_answer st t) ≡ true
  pub second : is_ok (next_answer (next_state st t) s) ≡ true
  pub state : next_state (next_state st t) s ≡ next_state (next_state st s) t
  pub first_there : In t (candidates st.board)
  pub second_there : In s (candidates (next_state st t).board)
  pub lower : t.from < s.from

module _ (st : TurnState) (s t : Step) (calm : settle st.board ≡ st.board) (few : st.count < 3) (ok : is_ok (next_answer (next_state st s) t) ≡ true) (out : comes_turned st s t ≡ true) where
  abbrev S : TurnState
  S = next_state st s

  abbrev T : TurnState
  T = next_state st t

  abbrev side : Color
  side = st.start.side

  calm_parts : (goes_calmly st s ≡ true) × ((commutes_before s t && moves_calmly S t.from) ≡ true)
  calm_parts = and_parts (goes_calmly st s) (commutes_before s t && moves_calmly S t.from) out

  goes_parts : (is_none S.open_pull ≡ true) × (goes_alone st s ≡ true)
  goes_parts = and_parts (is_none S.open_pull) (goes_alone st s) calm_parts.0

  single : (st.cut ≡ true) × (is_single st.board side s ≡ true)
  single = and_parts st.cut (is_single st.board side s) goes_parts.1

  order_parts : (commutes_before s t ≡ true) × (moves_calmly S t.from ≡ true)
  order_parts = and_parts (commutes_before s t) (moves_calmly S t.from) calm_parts.1

  far_parts : (commutes s t ≡ true) × (nat_lt t.from s.from ≡ true)
  far_parts = and_parts (commutes s t) (nat_lt t.from s.from) order_parts.0

  mover_parts : (holds_color side (at S.board t.from) ≡ true) × (not (is_beside (λ m. holds_color (other_color side) (at S.board m)) t.from) ≡ true)
  mover_parts = and_parts (holds_color side (at S.board t.from)) (not (is_beside (λ m. holds_color (other_color side) (at S.board m)) t.from)) order_parts.1

  accepted : (cuts_next S t || begins_push S t) ≡ true
  accepted = (ok_parts S t ok).1

  here : at S.board t.from ≡ Some t.piece
  unfolding fits
  here = held_piece t.piece (at S.board t.from) (and_parts (holds t.piece (at S.board t.from)) (is_free S.board (target t)) (moves_fit S t accepted)).0

  own : same_color t.piece.color side ≡ true
  own =
      let there : same_color side t.piece.color ≡ true = sym (ap (holds_color side) here) ∙ mover_parts.0 in
      let is : side ≡ t.piece.color = color_is side t.piece.color there in
      subst (λ (c : Color). same_color c side ≡ true) is (subst (λ (c : Color). same_color side c ≡ true) (sym is) there)

  -- the second of the two goes alone
  alone : goes_alone S t ≡ true
  alone =
      let begins : begins_push S t ≡ false = last S.cut (is_half S.board side t) (no_half S.board side t own) in
      let cuts : cuts_next S t ≡ true = or_no (cuts_next S t) (begins_push S t) begins accepted in
      let push : completes_push S t S.open_push ≡ false = pushes_none S t S.open_push (no_push st s t calm single.0 few single.1 far_parts.0) in
      let pull : completes_pull S t S.open_pull ≡ false = pull_none S.open_pull (none_is S.open_pull goes_parts.0) in
      or_no (goes_alone S t) (ends_move S t) (λ i. push i || pull i) cuts where
        last : (x y : Bool) → y ≡ false → (x && y) ≡ false
        last true y e = e
        last false y e = refl

        pull_none : (left : Option (ℕ × Piece)) → left ≡ None → completes_pull S t left ≡ false
        pull_none left none = rw none refl

  pub is_turned : IsTurned st s t
  is_turned =
      let second : is_single (after st.board s) side t ≡ true = (and_parts S.cut (is_single S.board side t) alone).1 in
      let go_s = single_goes st.board side s calm single.1 in
      let calm_s : settle S.board ≡ S.board = after_settled st.board s go_s.fit in
      let turned = may_be_turned st.board side s t calm single.1 second far_parts.0 in
      let go_t = single_goes st.board side t calm turned.first in
      let calm_t : settle T.board ≡ T.board = after_settled st.board t go_t.fit in
      let go_after = single_goes T.board side s calm_t turned.second in
      let alone_t : goes_alone st t ≡ true = and_from st.cut (is_single st.board side t) single.0 turned.first in
      let cut_t : T.cut ≡ true = or_left (goes_alone st t) (ends_move st t) alone_t in
      let alone_s : goes_alone T s ≡ true = and_from T.cut (is_single T.board side s) cut_t turned.second in
      let cut_ts : cuts_next T s ≡ true = or_left (goes_alone T s) (ends_move T s) alone_s in
      let cut_st : cuts_next S t ≡ true = or_left (goes_alone S t) (ends_move S t) alone in
      let push_ts : begins_push T s ≡ false = no_begin T s T.cut (begins_none T.board side s turned.second) in
      let push_st : begins_push S t ≡ false = no_begin S t S.cut (begins_none S.board side t second) in
      let none_s : may_pull S.board s ≡ false = left_none (goes_alone st s) (may_pull S.board s) s goes_parts.1 goes_parts.0 in
      let none_t : may_pull S.board t ≡ false = calm_pulls S.board side t own (not_is _ mover_parts.1) in
      let pull_s : may_pull (after S.board t) s ≡ false = pull_stays S.board side t calm_s second s go_s.from_inside (single_own st.board side s single.1) none_s in
      let pull_t : may_pull (after S.board t) t ≡ false = pull_stays S.board side t calm_s second t go_t.from_inside own none_t in
      let pull_ts : (goes_alone T s && may_pull (after T.board s) s) ≡ false = last (goes_alone T s) (may_pull (after T.board s) s) (ap (λ b. may_pull b s) turned.board ∙ pull_s) in
      let pull_st : (goes_alone S t && may_pull (after S.board t) t) ≡ false = last (goes_alone S t) (may_pull (after S.board t) t) pull_t in
      let pushes : left_if (begins_push T s) s ≡ left_if (begins_push S t) t = none_left (begins_push T s) (begins_push S t) push_ts push_st in
      let pulls : left_if (goes_alone T s && may_pull (after T.board s) s) s ≡ left_if (goes_alone S t && may_pull (after S.board t) t) t = none_left (goes_alone T s && may_pull (after T.board s) s) (goes_alone S t && may_pull (after S.board t) t) pull_ts pull_st in
      let cuts : cuts_next T s ≡ cuts_next S t = cut_ts ∙ sym cut_st in
      record {
        first = alone_is_ok st t (omega arith) alone_t;
        second = alone_is_ok T s (omega arith) alone_s;
        state = λ i. record { start = st.start; board = turned.board i; count = (st.count + 1) + 1; cut = cuts i; open_push = pushes i; open_pull = pulls i };
        first_there = goes_in st.board t go_t;
        second_there = goes_in T.board s go_after;
        lower = ltb-true t.from s.from far_parts.1;
      } where
        last : (x y : Bool) → y ≡ false → (x && y) ≡ false
        last true y e = e
        last false y e = refl

        no_begin : (u : TurnState) (v : Step) (cut : Bool) → is_half u.board u.start.side v ≡ false → (cut && is_half u.board u.start.side v) ≡ false
        no_begin u v true e = e
        no_begin u v false e = refl

        none_left : (x y : Bool) → x ≡ false → y ≡ false → left_if x s ≡ left_if y t
        none_left false false e f = refl
        none_left true y e f = absurd (true≢false e)
        none_left false true e f = absurd (true≢false f)

        not_is : (x : Bool) → not x ≡ true → x ≡ false
        not_is true h = absurd (true≢false (sym h))
        not_is false h = refl
