-- Steps in the order in which they are made: what a state says of them.
use Rattle.std.proofs.Common.{◌≡◌, List, [], ◌∷◌, ◌++◌, Bool, true, false, reverse, refl, sym, ◌∙◌, ap}
use Rattle.std.specs.Prelude.{◌&&◌, ◌||◌, not, nat_le, is_some}
use Rattle.std.proofs.lemmas.List.{reverse-append, reverse-reverse, length-reverse}
use Rattle.arimaa_board.specs.declared.piece.Color.{Color}
use Rattle.arimaa_board.specs.declared.board.Board.{Board}
use Rattle.arimaa_board.specs.declared.position.Position.{Position}
use Rattle.arimaa_board.specs.declared.position.Step.{Step}
use Rattle.arimaa_board.specs.Words.{same_squares}
use Rattle.arimaa_model.specs.Moves.{after, is_single, is_half, is_push, is_pull}
use Rattle.arimaa_model.specs.Turns.{after_all, has_cutting, has_open_cutting, may_grow, is_turn}
use Rattle.arimaa_model.specs.Backward.{after_back, cuts_back, opens_back, grows_back}
use Rattle.arimaa_model.proofs.Lemmas.BothWays.{has_cutting-cuts_back}
use Rattle.arimaa_model.proofs.Lemmas.FaultLaws.{after_back-after_all}
use Rattle.arimaa_model.proofs.Lemmas.FirstPlaces.{spread}
use Rattle.arimaa_step.specs.declared.state.TurnState.{TurnState}
use Rattle.arimaa_step.specs.State.{left_if, state_of}
use Rattle.arimaa_step.specs.Future.{HaveOneFuture}
use Rattle.arimaa_step.specs.Next.{next_state}
use Rattle.arimaa_step.proofs.Lemmas.StateLaws.{state_law}

one_and_half : (a p h : Bool) → (a && h || p && false) ≡ (a && h)
one_and_half true true true = refl
one_and_half true true false = refl
one_and_half true false true = refl
one_and_half true false false = refl
one_and_half false true h = refl
one_and_half false false h = refl

-- steps can be opened where all but the last can be cut, and the last begins a push
pub has_open_cutting-last : (b : Board) (side : Color) (xs : List Step) (s : Step) → has_open_cutting b side (xs ++ s ∷ []) ≡ (has_cutting b side xs && is_half (after_all b xs) side s)
has_open_cutting-last b side [] s = refl
has_open_cutting-last b side (x ∷ []) s = one_and_half (is_single b side x) (is_push b side x s || is_pull b side x s) (is_half (after b x) side s)
has_open_cutting-last b side (x ∷ y ∷ rest) s =
    (λ i. is_single b side x && has_open_cutting-last (after b x) side (y ∷ rest) s i
    || (is_push b side x y || is_pull b side x y) && has_open_cutting-last (after (after b x) y) side rest s i)
    ∙ spread (is_single b side x) (has_cutting (after b x) side (y ∷ rest)) (is_push b side x y || is_pull b side x y) (has_cutting (after (after b x) y) side rest) (is_half (after_all b (x ∷ y ∷ rest)) side s)

opens_back-reverse : (b : Board) (side : Color) (back : List Step) → opens_back b side back ≡ has_open_cutting b side (reverse back)
opens_back-reverse b side [] = refl
opens_back-reverse b side (s ∷ before) =
    let front = reverse before in
    let cut : cuts_back b side before ≡ has_cutting b side front = ap (cuts_back b side) (sym (reverse-reverse before)) ∙ has_cutting-cuts_back b side front in
    let board : after_back b before ≡ after_all b front = ap (after_back b) (sym (reverse-reverse before)) ∙ after_back-after_all b front in
    (λ i. cut i && is_half (board i) side s)
    ∙ (sym (has_open_cutting-last b side front s) ∙ ap (has_open_cutting b side) (sym (reverse-append (s ∷ []) before)))

pub may_grow-back : (b : Board) (side : Color) (steps : List Step) → grows_back b side (reverse steps) ≡ may_grow b side steps
may_grow-back b side steps =
    let opens : opens_back b side (reverse steps) ≡ has_open_cutting b side steps = opens_back-reverse b side (reverse steps) ∙ ap (has_open_cutting b side) (reverse-reverse steps) in
    λ i. has_cutting-cuts_back b side steps i || opens i

-- whether a state's steps can be cut, with or without the first half of a push at the end
abbrev pub state_grows : TurnState → Bool
state_grows st = st.cut || is_some st.open_push

-- whether a state's steps are a turn
abbrev pub state_turns : TurnState → Bool
state_turns st = nat_le 1 st.count && nat_le st.count 4 && st.cut && not (same_squares st.board st.start.board)

left-some : (v : Bool) (s : Step) → is_some (left_if v s) ≡ v
left-some true s = refl
left-some false s = refl

grows-state : (p : Position) (back : List Step) → state_grows (state_of p back) ≡ grows_back p.board p.side back
grows-state p [] = refl
grows-state p (s ∷ before) = ap (λ v. cuts_back p.board p.side (s ∷ before) || v) (left-some (opens_back p.board p.side (s ∷ before)) s)

pub may_grow-state : (p : Position) (steps : List Step) → may_grow p.board p.side steps ≡ state_grows (state_of p (reverse steps))
may_grow-state p steps = sym (may_grow-back p.board p.side steps) ∙ sym (grows-state p (reverse steps))

pub is_turn-state : (p : Position) (steps : List Step) → is_turn p.board p.side steps ≡ state_turns (state_of p (reverse steps))
unfolding is_turn
is_turn-state p steps =
    λ i. nat_le 1 (sym (length-reverse steps) i) && nat_le (sym (length-reverse steps) i) 4 && sym (has_cutting-cuts_back p.board p.side steps) i
    && not (same_squares (sym (after_back-after_all p.board steps) i) p.board)

-- the same state after more steps
later_state : (p : Position) (more xs ys : List Step) → state_of p xs ≡ state_of p ys → state_of p (more ++ xs) ≡ state_of p (more ++ ys)
later_state p [] xs ys e = e
later_state p (s ∷ more) xs ys e =
    sym (state_law p (more ++ xs) s) ∙ (ap (λ st. next_state st s) (later_state p more xs ys e) ∙ state_law p (more ++ ys) s)

-- one state, one future
pub state_decides : (p : Position) (xs ys : List Step) → state_of p (reverse xs) ≡ state_of p (reverse ys) → HaveOneFuture p xs ys
state_decides p xs ys e = record {
  grow = λ rest. may_grow-state p (xs ++ rest) ∙ (ap state_grows (later rest) ∙ sym (may_grow-state p (ys ++ rest)));
  reach = λ rest. sym (after_back-after_all p.board (xs ++ rest)) ∙ (ap (λ st. st.board) (later rest) ∙ after_back-after_all p.board (ys ++ rest));
  end = λ rest. is_turn-state p (xs ++ rest) ∙ (ap state_turns (later rest) ∙ sym (is_turn-state p (ys ++ rest)));
} where
  later : (rest : List Step) → state_of p (reverse (xs ++ rest)) ≡ state_of p (reverse (ys ++ rest))
  later rest =
      ap (state_of p) (reverse-append xs rest)
      ∙ (later_state p (reverse rest) (reverse xs) (reverse ys) e ∙ sym (ap (state_of p) (reverse-append ys rest)))
