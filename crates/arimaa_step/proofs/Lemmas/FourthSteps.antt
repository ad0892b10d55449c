-- Fourth steps that commute with the third and come before it bring about nothing new.
use Rattle.std.proofs.Common.{◌≡◌, ℕ, ◌+◌, ◌<◌, ◌≤◌, ◌&&◌, List, [], ◌∷◌, ◌++◌, Bool, true, false, cond, ◌⊎◌, inl, inr, ⊎_elim, Some, Result, Ok, Err, refl, sym, ◌∙◌, ap, subst, arith, append_assoc, append-nil}
use Rattle.std.specs.Prelude.{is_ok, nat_lt}
use Rattle.std.specs.List.{flat_map, range_with_len}
use Rattle.std.proofs.lemmas.Bool.{and_parts, ltb-true, true≢false}
use Rattle.arimaa_board.specs.declared.piece.Piece.{Piece}
use Rattle.arimaa_board.specs.declared.square.Dir.{Dir}
use Rattle.arimaa_board.specs.declared.square.Dir.TheVariants.{North, East, South, West}
use Rattle.arimaa_board.specs.declared.board.Board.{Board}
use Rattle.arimaa_board.specs.declared.position.Step.{Step}
use Rattle.arimaa_board.specs.declared.position.Position.{Position}
use Rattle.arimaa_board.specs.Board.{at, settle, holds}
use Rattle.arimaa_model.specs.declared.fault.TurnFault.{TurnFault}
use Rattle.arimaa_model.specs.Moves.{target, fits, is_free, after, is_single}
use Rattle.arimaa_model.specs.Results.{step_of, squares}
use Rattle.arimaa_model.specs.Plain.{steps_of, candidates}
use Rattle.arimaa_model.proofs.Lemmas.Members.{In, In-append, In-left, In-right, flat_map-In}
use Rattle.arimaa_model.proofs.Lemmas.Pushers.{held_piece, after_settled}
use Rattle.arimaa_model.proofs.Lemmas.Listed.{In-range}
use Rattle.arimaa_step.specs.declared.state.TurnState.{TurnState}
use Rattle.arimaa_step.specs.Next.{next_state, next_answer, state_end, goes_alone}
use Rattle.arimaa_step.specs.CommutingSteps.{commutes, commutes_before}
use Rattle.arimaa_step.proofs.Turned.{Goes, single_goes, may_be_turned}
use Rattle.arimaa_step.proofs.TurnedEnds.{ends_commute, ended_alone}
use Rattle.arimaa_step.proofs.Lemmas.LeavingOut.{IsLess, AreLess, less_parts, left_out}
use Rattle.arimaa_step.proofs.Lemmas.StepOrder.{Rising, candidates-rising, stands_before}

-- ---- a step that fits is one of the steps of a board

in_steps : (d : Dir) (n : ℕ) (p : Piece) → In (step_of n d p) (steps_of n (Some p))
in_steps North n p = inl refl
in_steps East n p = inr (inl refl)
in_steps South n p = inr (inr (inl refl))
in_steps West n p = inr (inr (inr (inl refl)))

pub goes_in : (b : Board) (s : Step) → Goes b s → In s (candidates b)
unfolding candidates squares fits
goes_in b s go =
    let here : at b s.from ≡ Some s.piece = held_piece s.piece (at b s.from) (and_parts (holds s.piece (at b s.from)) (is_free b (target s)) go.fit).0 in
    flat_map-In (λ k. steps_of k (at b k)) s s.from (range_with_len 0 64) (In-range 0 64 s.from (omega arith) (omega (arith, go.from_inside)))
    (subst (λ o. In s (steps_of s.from o)) (sym here) (in_steps s.dir s.from s.piece))

-- ---- what ends a turn

-- given: the positions that an end of a turn stands for, none for a fault
module _ (given : Result Position TurnFault → List Position) (none : (e : TurnFault) → given (Err e) ≡ []) where
  -- what a step ends the turn with, where it is accepted
  abbrev pub ends : TurnState → Step → List Position
  ends st t = cond (is_ok (next_answer st t)) (given (state_end (next_state st t))) []

  -- what the steps after a state and a step end the turn with
  abbrev pub after_pair : TurnState × Step → List Position
  after_pair u = flat_map (ends (next_state u.0 u.1)) (candidates (next_state u.0 u.1).board)

  -- the same of a step, unless it commutes with the single step before and comes before it in order
  abbrev pub ends_in_order : TurnState × Step → Step → List Position
  ends_in_order u t = cond (goes_alone u.0 u.1 && commutes_before u.1 t) [] (ends (next_state u.0 u.1) t)

  -- what those steps end the turn with
  abbrev pub after_fewer : TurnState × Step → List Position
  after_fewer u = flat_map (ends_in_order u) (candidates (next_state u.0 u.1).board)

  module _ (st : TurnState) (s : Step) (before : List (TurnState × Step)) (calm : settle st.board ≡ st.board) (few : st.count < 3) (made : (t : Step) → In t (candidates st.board) → is_ok (next_answer st t) ≡ true → t.from < s.from → In (st, t) before) where
    abbrev S : TurnState
    S = next_state st s

    module _ (t : Step) (alone : goes_alone st s ≡ true) (commute : commutes_before s t ≡ true) (y : Position) where
      stands_at : (q : Position) → state_end (next_state S t) ≡ Ok q → In y (given (state_end (next_state S t))) → In y (flat_map after_pair before)
      stands_at q ended j =
          let single = and_parts st.cut (is_single st.board st.start.side s) alone in
          let far = and_parts (commutes s t) (nat_lt t.from s.from) commute in
          let less : t.from < s.from = ltb-true t.from s.from far.1 in
          let turned = ends_commute st s t calm single.0 few single.1 far.0 q ended in
          let second = ended_alone st s t calm single.0 few single.1 far.0 q ended in
          let way = may_be_turned st.board st.start.side s t calm single.1 second far.0 in
          let go_t = single_goes st.board st.start.side t calm way.first in
          let calm_t : settle (after st.board t) ≡ after st.board t = after_settled st.board t go_t.fit in
          let go_s = single_goes (after st.board t) st.start.side s calm_t way.second in
          let same : In y (given (state_end (next_state (next_state st t) s))) = subst (λ r. In y (given r)) (sym turned.end) j in
          let one : In y (ends (next_state st t) s) = subst (λ v. In y (cond v (given (state_end (next_state (next_state st t) s))) [])) (sym turned.second) same in
          let pair : In (st, t) before = made t (goes_in st.board t go_t) turned.first less in
          flat_map-In after_pair y (st, t) before pair
          (flat_map-In (ends (next_state st t)) y s (candidates (next_state st t).board) (goes_in (after st.board t) s go_s) one)

      by_end : (r : Result Position TurnFault) → state_end (next_state S t) ≡ r → In y (given (state_end (next_state S t))) → In y (flat_map after_pair before)
      by_end (Ok q) e j = stands_at q e j
      by_end (Err f) e j = let empty : given (state_end (next_state S t)) ≡ [] = ap given e ∙ none f in absurd (subst (λ l. In y l) empty j)

      by_answer : (v : Bool) → In y (cond v (given (state_end (next_state S t))) []) → In y (flat_map after_pair before)
      by_answer true j = by_end (state_end (next_state S t)) refl j
      by_answer false j = absurd j

    -- what is left out stands already
    pub fourth_less : IsLess (flat_map after_pair before) (after_pair (st, s)) (after_fewer (st, s))
    fourth_less = less_parts (flat_map after_pair before) (ends S) (ends_in_order (st, s)) (candidates S.board) (λ t i. by_test t (goes_alone st s && commutes_before s t) refl) where
      by_test : (t : Step) (v : Bool) → (goes_alone st s && commutes_before s t) ≡ v → (ends_in_order (st, s) t ≡ ends S t) ⊎ ((ends_in_order (st, s) t ≡ []) × ((y : Position) → In y (ends S t) → In y (flat_map after_pair before)))
      by_test t false e = inl (ap (λ v. cond v [] (ends S t)) e)
      by_test t true e = let parts = and_parts (goes_alone st s) (commutes_before s t) e in inr (ap (λ v. cond v [] (ends S t)) e, λ y j. by_answer t parts.0 parts.1 y (is_ok (next_answer S t)) j)

  -- ---- every state with each of its steps

  -- a state with each of these steps that it accepts
  abbrev pub with_steps : TurnState → List Step → List (TurnState × Step)
  with_steps st [] = []
  with_steps st (s ∷ ts) = cond (is_ok (next_answer st s)) ((st, s) ∷ with_steps st ts) (with_steps st ts)

  -- states, each with the steps that it accepts, in order
  abbrev pub all_pairs : List TurnState → List (TurnState × Step)
  all_pairs [] = []
  all_pairs (st ∷ sts) = with_steps st (candidates st.board) ++ all_pairs sts

  -- states after two steps or fewer, on boards on which no trap is due
  abbrev pub AreCalm : List TurnState → Type 0
  AreCalm [] = Unit {0}
  AreCalm (st ∷ sts) = (settle st.board ≡ st.board) × (st.count < 3) × AreCalm sts

  module _ (st : TurnState) (calm : settle st.board ≡ st.board) (few : st.count < 3) (others : List (TurnState × Step)) where
    -- blocks that follow: what is left to do for the other states is given
    steps_less : (before : List (TurnState × Step)) (done ts : List Step) → done ++ ts ≡ candidates st.board → ((t : Step) → In t done → is_ok (next_answer st t) ≡ true → In (st, t) before) → AreLess after_pair (before ++ with_steps st ts) others (flat_map after_fewer others) → AreLess after_pair before (with_steps st ts ++ others) (flat_map after_fewer (with_steps st ts ++ others))
    steps_less before done [] all made rest = subst (λ l. AreLess after_pair l others (flat_map after_fewer others)) (append-nil before) rest
    steps_less before done (s ∷ ts) all made rest = by_answer (is_ok (next_answer st s)) refl (λ then new left. steps_less then (done ++ s ∷ []) ts more new left) where
      more : (done ++ s ∷ []) ++ ts ≡ candidates st.board
      more = append_assoc done (s ∷ []) ts ∙ all

      earlier : (t : Step) → In t (candidates st.board) → is_ok (next_answer st t) ≡ true → t.from < s.from → In (st, t) before
      earlier t i ok less = made t (stands_before done ts s t (subst Rising (sym all) (candidates-rising st.board)) (subst (λ l. In t l) (sym all) i) less) ok

      by_answer : (v : Bool) → is_ok (next_answer st s) ≡ v → ((then : List (TurnState × Step)) → ((t : Step) → In t (done ++ s ∷ []) → is_ok (next_answer st t) ≡ true → In (st, t) then) → AreLess after_pair (then ++ with_steps st ts) others (flat_map after_fewer others) → AreLess after_pair then (with_steps st ts ++ others) (flat_map after_fewer (with_steps st ts ++ others))) → AreLess after_pair before (cond (is_ok (next_answer st s)) ((st, s) ∷ with_steps st ts) (with_steps st ts) ++ others) (flat_map after_fewer (cond (is_ok (next_answer st s)) ((st, s) ∷ with_steps st ts) (with_steps st ts) ++ others))
      by_answer true e go =
          let new : (t : Step) → In t (done ++ s ∷ []) → is_ok (next_answer st t) ≡ true → In (st, t) (before ++ (st, s) ∷ []) =
          λ t i ok. ⊎_elim
          (λ j. In-left (st, t) before ((st, s) ∷ []) (made t j ok))
          (λ j. ⊎_elim (λ same. In-right (st, t) before ((st, s) ∷ []) (inl (ap (λ (u : Step). (st, u)) same))) (λ no. absurd no) j)
          (In-append t done (s ∷ []) i) in
          let left : AreLess after_pair ((before ++ (st, s) ∷ []) ++ with_steps st ts) others (flat_map after_fewer others) =
          subst (λ l. AreLess after_pair l others (flat_map after_fewer others)) (ap (λ v. before ++ cond v ((st, s) ∷ with_steps st ts) (with_steps st ts)) e ∙ sym (append_assoc before ((st, s) ∷ []) (with_steps st ts))) rest in
          subst (λ v. AreLess after_pair before (cond v ((st, s) ∷ with_steps st ts) (with_steps st ts) ++ others) (flat_map after_fewer (cond v ((st, s) ∷ with_steps st ts) (with_steps st ts) ++ others))) (sym e)
          (after_fewer (st, s), flat_map after_fewer (with_steps st ts ++ others), refl, fourth_less st s before calm few earlier, go (before ++ (st, s) ∷ []) new left)
      by_answer false e go =
          let new : (t : Step) → In t (done ++ s ∷ []) → is_ok (next_answer st t) ≡ true → In (st, t) before =
          λ t i ok. ⊎_elim
          (λ j. made t j ok)
          (λ j. ⊎_elim (λ same. absurd (true≢false (sym ok ∙ (ap (λ (u : Step). is_ok (next_answer st u)) same ∙ e)))) (λ no. absurd no) j)
          (In-append t done (s ∷ []) i) in
          let left : AreLess after_pair (before ++ with_steps st ts) others (flat_map after_fewer others) =
          subst (λ l. AreLess after_pair l others (flat_map after_fewer others)) (ap (λ v. before ++ cond v ((st, s) ∷ with_steps st ts) (with_steps st ts)) e) rest in
          subst (λ v. AreLess after_pair before (cond v ((st, s) ∷ with_steps st ts) (with_steps st ts) ++ others) (flat_map after_fewer (cond v ((st, s) ∷ with_steps st ts) (with_steps st ts) ++ others))) (sym e)
          (go before new left)

  pairs_less : (before : List (TurnState × Step)) (sts : List TurnState) → AreCalm sts → AreLess after_pair before (all_pairs sts) (flat_map after_fewer (all_pairs sts))
  pairs_less before [] calm = refl
  pairs_less before (st ∷ sts) calm =
      steps_less st calm.0 calm.1 (all_pairs sts) before [] (candidates st.board) refl (λ t i ok. absurd i) (pairs_less (before ++ with_steps st (candidates st.board)) sts calm.2)

  -- the third steps of all states, each with its fourth steps: without those that commute with the third and come before
  -- it, the first occurrences are the same
  pub fourth_steps : (keep : List Position → List Position → List Position) (add : List Position → Position → List Position) → ((q : List Position) → keep q [] ≡ q) → ((q xs : List Position) (x : Position) → keep q (x ∷ xs) ≡ keep (add q x) xs) → ((x : Position) (q : List Position) → In x q → add q x ≡ q) → ((y x : Position) (q : List Position) → In y q → In y (add q x)) → ((x : Position) (q : List Position) → In x (add q x)) → (q : List Position) (sts : List TurnState) → AreCalm sts → keep q (flat_map after_pair (all_pairs sts)) ≡ keep q (flat_map after_fewer (all_pairs sts))
  fourth_steps keep add nil one known old new q sts calm = left_out keep add nil one known old new after_pair (all_pairs sts) q (flat_map after_fewer (all_pairs sts)) (pairs_less [] sts calm)
