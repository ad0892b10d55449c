-- The states that one more step makes, by the steps that are left.
use Rattle.std.proofs.Common.{◌≡◌, ◌≢◌, ℕ, zero, suc, ◌+◌, ◌<◌, ◌≤◌, List, [], ◌∷◌, ◌++◌, map, Bool, true, false, cond, Option, None, Some, Result, Ok, Err, refl, sym, ◌∙◌, ap, arith, ⊎_elim, ne_eqb, eq-eqb, append_assoc}
use Rattle.std.specs.Prelude.{◌==◌, ◌&&◌, not, is_ok}
use Rattle.std.specs.List.{filter, flat_map, range_with_len}
use Rattle.std.specs.Option.{option_to_list}
use Rattle.arimaa_board.specs.declared.position.Position.{Position}
use Rattle.arimaa_model.specs.declared.fault.TurnFault.{TurnFault}
use Rattle.arimaa_model.specs.declared.fault.TurnFault.TheVariants.{Empty, Unfinished}
use Rattle.std.proofs.lemmas.Bool.{and_parts, cases_eq, true≢false}
use Rattle.std.proofs.Math.Bool.{and-true}
use Rattle.arimaa_board.specs.declared.square.Dir.{Dir}
use Rattle.arimaa_board.specs.declared.square.Dir.TheVariants.{North, East, South, West}
use Rattle.arimaa_board.specs.declared.piece.Piece.{Piece}
use Rattle.arimaa_board.specs.declared.position.Step.{Step}
use Rattle.arimaa_board.specs.Board.{at}
use Rattle.arimaa_board.specs.Square.{directions}
use Rattle.arimaa_model.specs.declared.fault.StepFault.{StepFault}
use Rattle.arimaa_model.specs.Faults.{unless}
use Rattle.arimaa_model.specs.Plain.{candidates, steps_of}
use Rattle.arimaa_model.specs.Results.{step_of}
use Rattle.arimaa_model.proofs.Lemmas.Lists.{flat_map-agree, flat_map-flat_map, flat_map-map}
use Rattle.arimaa_model.proofs.Lemmas.Reaching.{candidates-is}
use Rattle.arimaa_step.specs.declared.accepted_steps.AcceptedSteps.{AcceptedSteps}
use Rattle.arimaa_step.specs.declared.state.StepDone.{StepDone}
use Rattle.arimaa_step.specs.declared.state.TurnState.{TurnState}
use Rattle.arimaa_step.specs.AcceptedSteps.{accepts, accepts_content, ends_by, ends_content, AreAccepted, AreEnding, mask_towards}
use Rattle.arimaa_step.specs.Next.{next_answer, next_fault, next_state, cuts_next, state_end}
use Rattle.arimaa_step.specs.State.{trap_first}
use Rattle.arimaa_step.proofs.Lemmas.AcceptedLaws.{and_false}
use Rattle.arimaa_model.specs.Marks.{removed_by}
use Rattle.arimaa_results.specs.Ahead.{state_of_step, states_by, next_states, value_of, is_unbarred, given_by}
use Rattle.arimaa_results.specs.NextStates.{AreAllEnding, ends_of, pairs_by, next_pairs, pairs_of_content, has_step, pairs_from, pairs_left, AreAllAccepted, same_dir, IsFirstDirection, IsTaken}
use Rattle.arimaa_results.proofs.FirstSteps.{in_mask}

-- numbers that give the same
pub same_numbers : {Y : Type 0} (F G : ℕ → List Y) (k a : ℕ) → ((n : ℕ) → a ≤ n → n < a + k → F n ≡ G n) → flat_map F (range_with_len a k) ≡ flat_map G (range_with_len a k)
same_numbers F G zero a same = refl
same_numbers F G (suc k) a same = λ i. same a (omega arith) (omega arith) i ++ same_numbers F G k (a + 1) (λ n from to. same n (omega arith) (omega arith)) i

-- the numbers below the first that gives something, and then its first part
split_at : {Y : Type 0} (F G : ℕ → List Y) (X : List Y) (m k a : ℕ) → a ≤ m → m < a + k
    → ((n : ℕ) → a ≤ n → n < m → (F n ≡ []) × (G n ≡ [])) → F m ≡ X ++ G m → ((n : ℕ) → m < n → n < a + k → F n ≡ G n)
    → flat_map F (range_with_len a k) ≡ X ++ flat_map G (range_with_len a k)
split_at F G X m zero a low high before here later = absurd (omega arith)
split_at F G X m (suc k) a low high before here later =
    ⊎_elim
    (λ (e : a ≡ m).
    (λ i. (ap F e ∙ (here ∙ ap (λ n. X ++ G n) (sym e))) i ++ same_numbers F G k (a + 1) (λ n from to. later n (omega arith) (omega arith)) i)
    ∙ append_assoc X (G a) (flat_map G (range_with_len (a + 1) k)))
    (λ apart.
    (λ i. (before a (omega arith) (omega arith)).0 i ++ split_at F G X m k (a + 1) (omega arith) (omega arith) (λ n from to. before n (omega arith) to) here (λ n from to. later n from (omega arith)) i)
    ∙ sym (ap (λ l. X ++ (l ++ flat_map G (range_with_len (a + 1) k))) (before a (omega arith) (omega arith)).1))
    (cases_eq a m)

-- the states by the directions that pass a test
abbrev by_test : {Y : Type 0} → (Dir → Bool) → (Dir → List Y) → List Y
by_test t X = flat_map (λ d. cond (t d) (X d) []) directions

by_test-agree : {Y : Type 0} (t u : Dir → Bool) (X : Dir → List Y) → ((d : Dir) → t d ≡ u d) → by_test t X ≡ by_test u X
by_test-agree t u X same = λ i. flat_map (λ d. cond (same d i) (X d) []) directions

by_test-none : {Y : Type 0} (t : Dir → Bool) (X : Dir → List Y) → ((d : Dir) → t d ≡ false) → by_test t X ≡ []
by_test-none t X none = by_test-agree t (λ d. false) X none

-- the directions that do not pass give nothing
by_test-all : {Y : Type 0} (t : Dir → Bool) (X : Dir → List Y) → ((d : Dir) → t d ≡ false → X d ≡ []) → by_test t X ≡ flat_map X directions
by_test-all t X nothing = λ i. flat_map (λ d. each d i) directions where
  each : (d : Dir) → cond (t d) (X d) [] ≡ X d
  each d = elim (t d) as (λ v. t d ≡ v → cond v (X d) [] ≡ X d) [ true ↦ λ _. refl | false ↦ λ out. sym (nothing d out) ] refl

abbrev by_four : {Y : Type 0} → (Dir → List Y) → Bool → Bool → Bool → Bool → List Y
by_four X n e s w = cond n (X North) [] ++ (cond e (X East) [] ++ (cond s (X South) [] ++ (cond w (X West) [] ++ [])))

-- the first direction that passes, and then the others
by_test-first : {Y : Type 0} (t u : Dir → Bool) (X : Dir → List Y) (d : Dir) → t d ≡ true → IsFirstDirection t d → ((e : Dir) → u e ≡ (t e && not (same_dir e d))) → by_test t X ≡ X d ++ by_test u X
by_test-first t u X North here first left =
    (λ i. by_four X (here i) (t East) (t South) (t West))
    ∙ sym (λ i. X North ++ by_four X ((left North ∙ and_false (t North)) i) ((left East ∙ and-true (t East)) i) ((left South ∙ and-true (t South)) i) ((left West ∙ and-true (t West)) i))
by_test-first t u X East here first left =
    (λ i. by_four X (first i) (here i) (t South) (t West))
    ∙ sym (λ i. X East ++ by_four X ((left North ∙ (and-true (t North) ∙ first)) i) ((left East ∙ and_false (t East)) i) ((left South ∙ and-true (t South)) i) ((left West ∙ and-true (t West)) i))
by_test-first t u X South here first left =
    (λ i. by_four X (first.0 i) (first.1 i) (here i) (t West))
    ∙ sym (λ i. X South ++ by_four X ((left North ∙ (and-true (t North) ∙ first.0)) i) ((left East ∙ (and-true (t East) ∙ first.1)) i) ((left South ∙ and_false (t South)) i) ((left West ∙ and-true (t West)) i))
by_test-first t u X West here first left =
    (λ i. by_four X (first.0 i) (first.1 i) (first.2 i) (here i))
    ∙ sym (λ i. X West ++ by_four X ((left North ∙ (and-true (t North) ∙ first.0)) i) ((left East ∙ (and-true (t East) ∙ first.1)) i) ((left South ∙ (and-true (t South) ∙ first.2)) i) ((left West ∙ and_false (t West)) i))

module _ (st : TurnState) where
  no_state : (r : Result StepDone StepFault) → is_ok r ≡ false → option_to_list (state_of_step r) ≡ []
  no_state (Ok done) fails = cc
  no_state (Err e) fails = refl

  one_state : (o : Option StepFault) (done : StepDone) → is_ok (unless o done) ≡ true → option_to_list (state_of_step (unless o done)) ≡ done.state ∷ []
  one_state None done fine = refl
  one_state (Some e) done fine = cc

  abbrev paired : Step → List TurnState → List (Step × TurnState)
  paired s sts = map (λ next. (s, next)) sts

  -- a step that is not accepted makes no state, and an accepted one the next
  refused : (s : Step) → is_ok (next_answer st s) ≡ false → pairs_by st s ≡ []
  refused s fails = ap (paired s) (no_state (next_answer st s) fails)

  accepted : (s : Step) → is_ok (next_answer st s) ≡ true → pairs_by st s ≡ (s, next_state st s) ∷ []
  unfolding next_answer
  accepted s fine =
      let done : StepDone = record { state = next_state st s; removed = trap_first (removed_by st.board s) } in
      ap (paired s) (one_state (next_fault st s) done fine)

  -- the states that a step makes, by whether it is accepted
  pub states_by-is : (s : Step) → states_by st s ≡ cond (is_ok (next_answer st s)) (next_state st s ∷ []) []
  unfolding next_answer
  states_by-is s = by_fault (next_fault st s) where
    done : StepDone
    done = record { state = next_state st s; removed = trap_first (removed_by st.board s) }

    by_fault : (o : Option StepFault) → option_to_list (state_of_step (unless o done)) ≡ cond (is_ok {T = StepDone} (unless o done)) (next_state st s ∷ []) []
    by_fault None = refl
    by_fault (Some e) = refl

  pub pairs_by-is : (s : Step) → pairs_by st s ≡ cond (is_ok (next_answer st s)) ((s, next_state st s) ∷ []) []
  pairs_by-is s =
      ap (paired s) (states_by-is s)
      ∙ elim (is_ok (next_answer st s)) as (λ v. paired s (cond v (next_state st s ∷ []) []) ≡ cond v ((s, next_state st s) ∷ []) []) [ true ↦ refl | false ↦ refl ]

  refused_content : (n : ℕ) (d : Dir) (o : Option Piece) → accepts_content st d n o ≡ false → pairs_of_content st n d o ≡ []
  refused_content n d None out = refl
  refused_content n d (Some p) out = refused (step_of n d p) out

  by_content : (n : ℕ) (o : Option Piece) → flat_map (λ d. pairs_of_content st n d o) directions ≡ flat_map (pairs_by st) (steps_of n o)
  by_content n None = refl
  by_content n (Some p) = refl

  -- the states by all steps that are accepted are the next states
  pub all_pairs : (a : AcceptedSteps) → AreAccepted st a → pairs_left st a ≡ next_pairs st
  unfolding pairs_left next_pairs
  all_pairs a are =
      same_numbers (pairs_from st a) (λ n. flat_map (pairs_by st) (steps_of n (at st.board n))) 64 0 (λ n _ small. from n small)
      ∙ sym (ap (flat_map (pairs_by st)) (candidates-is st.board) ∙ flat_map-flat_map (pairs_by st) (λ n. steps_of n (at st.board n)) (range_with_len 0 64)) where
        from : (n : ℕ) → n < 64 → pairs_from st a n ≡ flat_map (pairs_by st) (steps_of n (at st.board n))
        from n small =
            by_test-all (has_step a n) (λ d. pairs_of_content st n d (at st.board n))
            (λ d out. refused_content n d (at st.board n) (sym (in_mask (accepts st d) (mask_towards a d) n (are d) small) ∙ out))
            ∙ by_content n (at st.board n)

  -- all of them are accepted
  pub all_accepted : (a : AcceptedSteps) → AreAccepted st a → AreAllAccepted st a
  all_accepted a are d n small there = sym (in_mask (accepts st d) (mask_towards a d) n (are d) small) ∙ there

  module _ (old : AcceptedSteps) (m : ℕ) (d : Dir) (new : AcceptedSteps) (taken : IsTaken old m d new) (are : AreAllAccepted st old) where
    -- those that are left are accepted too
    pub left_accepted : AreAllAccepted st new
    left_accepted e n small there = are e n small (front (has_step old n e) (not (n == m && same_dir e d)) (sym (taken.left n e small) ∙ there)) where
      front : (x y : Bool) → (x && y) ≡ true → x ≡ true
      front true y both = refl
      front false y both = cc

    -- the first step and its state, and then those that are left
    pub pairs_taken : (p : Piece) → at st.board m ≡ Some p → pairs_left st old ≡ (step_of m d p, next_state st (step_of m d p)) ∷ pairs_left st new
    unfolding pairs_left
    pairs_taken p here =
        split_at (pairs_from st old) (pairs_from st new) ((step_of m d p, next_state st (step_of m d p)) ∷ []) m 64 0 (omega arith) (omega (arith, taken.on_board))
        (λ n _ lower. (by_test-none (has_step old n) (content n) (λ e. taken.none_lower n e lower), by_test-none (has_step new n) (content n) (λ e. none_new n e lower)))
        (by_test-first (has_step old m) (has_step new m) (λ e. pairs_of_content st m e (at st.board m)) d taken.there taken.none_earlier (λ e. taken.left m e taken.on_board ∙ ap (λ v. has_step old m e && not (v && same_dir e d)) (eq-eqb m m refl))
        ∙ ap (λ l. l ++ pairs_from st new m) its_pair)
        (λ n above small. by_test-agree (has_step old n) (has_step new n) (content n) (λ e. let apart : n ≢ m = omega arith in sym (taken.left n e small ∙ (ap (λ v. has_step old n e && not (v && same_dir e d)) (ne_eqb n m apart) ∙ and-true (has_step old n e))))) where
          content : ℕ → Dir → List (Step × TurnState)
          content n e = pairs_of_content st n e (at st.board n)

          none_new : (n : ℕ) (e : Dir) → n < m → has_step new n e ≡ false
          none_new n e lower = taken.left n e (omega (arith, taken.on_board)) ∙ ap (λ v. v && not (n == m && same_dir e d)) (taken.none_lower n e lower)

          its_pair : pairs_of_content st m d (at st.board m) ≡ (step_of m d p, next_state st (step_of m d p)) ∷ []
          its_pair = ap (pairs_of_content st m d) here ∙ accepted (step_of m d p) (sym (ap (accepts_content st d m) here) ∙ are d m taken.on_board taken.there)

    -- something stands on its square, and the step is accepted
    pub holds_piece : at st.board m ≡ None → ⊥
    holds_piece none = true≢false (sym (are d m taken.on_board taken.there) ∙ ap (accepts_content st d m) none)

    pub is_accepted : (p : Piece) → at st.board m ≡ Some p → is_ok (next_answer st (step_of m d p)) ≡ true
    is_accepted p here = sym (ap (accepts_content st d m) here) ∙ are d m taken.on_board taken.there

  ending_content : (d : Dir) (n : ℕ) (o : Option Piece) → ends_content st d n o ≡ true → accepts_content st d n o ≡ true
  ending_content d n None ends = ends
  ending_content d n (Some p) ends = (and_parts _ _ ends).0

  -- steps that end a move are accepted
  ending_accepted : (a : AcceptedSteps) → AreAllEnding st a → AreAllAccepted st a
  ending_accepted a are d n small there = ending_content d n (at st.board n) (are d n small there)

  -- all of them end a move
  pub all_ending : (a : AcceptedSteps) → AreEnding st a → AreAllEnding st a
  all_ending a are d n small there = sym (in_mask (ends_by st d) (mask_towards a d) n (are d) small) ∙ there

  module _ (old : AcceptedSteps) (m : ℕ) (d : Dir) (new : AcceptedSteps) (taken : IsTaken old m d new) (are : AreAllEnding st old) where
    -- the first step ends a move
    pub first_ends : ends_by st d m ≡ true
    first_ends = are d m taken.on_board taken.there

    -- and so do those that are left
    pub left_ending : AreAllEnding st new
    left_ending e n small there = are e n small (and_parts (has_step old n e) (not (n == m && same_dir e d)) (sym (taken.left n e small) ∙ there)).0

    ends_content_taken : (r : Result Position TurnFault) → ((p : Piece) → at st.board m ≡ Some p → r ≡ state_end (next_state st (step_of m d p)))
        → (o : Option Piece) → at st.board m ≡ o → ends_of (pairs_left st old) ≡ r ∷ ends_of (pairs_left st new)
    ends_content_taken r is None none = absurd (holds_piece old m d new taken (ending_accepted old are) none)
    ends_content_taken r is (Some p) here =
        ap ends_of (pairs_taken old m d new taken (ending_accepted old are) p here)
        ∙ sym (ap (λ x. x ∷ ends_of (pairs_left st new)) (is p here))

    -- what the end of the turn answers after the first step, and then after those that are left
    pub ends_taken : (r : Result Position TurnFault) → ((p : Piece) → at st.board m ≡ Some p → r ≡ state_end (next_state st (step_of m d p))) → ends_of (pairs_left st old) ≡ r ∷ ends_of (pairs_left st new)
    ends_taken r is = ends_content_taken r is (at st.board m) refl

  -- nothing is left
  pub pairs_none : (a : AcceptedSteps) → ((n : ℕ) (d : Dir) → n < 64 → has_step a n d ≡ false) → pairs_left st a ≡ []
  unfolding pairs_left
  pairs_none a none = same_numbers (pairs_from st a) nothing 64 0 (λ n _ small. by_test-none (has_step a n) (λ d. pairs_of_content st n d (at st.board n)) (λ d. none n d small)) ∙ empty 64 0 where
    nothing : ℕ → List (Step × TurnState)
    nothing n = []

    empty : (k b : ℕ) → flat_map nothing (range_with_len b k) ≡ []
    empty zero b = refl
    empty (suc k) b = empty k (b + 1)

unfinished : (early cut : Bool) (r : Result Position TurnFault) → cut ≡ false → value_of (cond early (Err Empty) (cond (not cut) (Err Unfinished) r)) ≡ None
unfinished true cut r torn = refl
unfinished false cut r torn = rw torn refl

module _ (barred : List Position) (st : TurnState) where
  -- what a step and its state give
  abbrev pub given : Step × TurnState → List Position
  given pr = given_by barred (state_end pr.1)

  -- a step that is refused, or after which the steps can't be cut, gives nothing
  pub given_none : (s : Step) → (is_ok (next_answer st s) && cuts_next st s) ≡ false → flat_map given (pairs_by st s) ≡ []
  given_none s not_both =
      elim (is_ok (next_answer st s)) as (λ v. is_ok (next_answer st s) ≡ v → (v && cuts_next st s) ≡ false → flat_map given (pairs_by st s) ≡ []) [
        | true ↦ λ fine torn.
            ap (flat_map given) (accepted st s fine)
            ∙ ap (λ o. filter (is_unbarred barred) (option_to_list o) ++ []) (unfinished (st.count + 1 == 0) (cuts_next st s) _ torn)
        | false ↦ λ fails _. ap (flat_map given) (refused st s fails)
      ] refl not_both

  given_content : (n : ℕ) (d : Dir) (o : Option Piece) → ends_content st d n o ≡ false → flat_map given (pairs_of_content st n d o) ≡ []
  given_content n d None out = refl
  given_content n d (Some p) out = given_none (step_of n d p) out

  -- the steps that end a move give what all accepted ones give
  given_from : (a : AcceptedSteps) → AreEnding st a → (n : ℕ) → n < 64 → flat_map given (pairs_from st a n) ≡ flat_map given (flat_map (pairs_by st) (steps_of n (at st.board n)))
  given_from a are n small =
      flat_map-flat_map given (λ d. cond (has_step a n d) (pairs_of_content st n d (at st.board n)) []) directions
      ∙ ((λ i. flat_map (λ d. each d i) directions)
      ∙ (sym (flat_map-flat_map given (λ d. pairs_of_content st n d (at st.board n)) directions)
      ∙ ap (flat_map given) (by_content st n (at st.board n)))) where
        each : (d : Dir) → flat_map given (cond (has_step a n d) (pairs_of_content st n d (at st.board n)) []) ≡ flat_map given (pairs_of_content st n d (at st.board n))
        each d = elim (has_step a n d) as (λ v. has_step a n d ≡ v → flat_map given (cond v (pairs_of_content st n d (at st.board n)) []) ≡ flat_map given (pairs_of_content st n d (at st.board n))) [
          | true ↦ λ _. refl
          | false ↦ λ out. sym (given_content n d (at st.board n) (sym (in_mask (ends_by st d) (mask_towards a d) n (are d) small) ∙ out))
        ] refl

  pub ending_given : (a : AcceptedSteps) → AreEnding st a → flat_map given (pairs_left st a) ≡ flat_map given (next_pairs st)
  unfolding pairs_left next_pairs
  ending_given a are =
      flat_map-flat_map given (pairs_from st a) (range_with_len 0 64)
      ∙ (same_numbers (λ n. flat_map given (pairs_from st a n)) (λ n. flat_map given (flat_map (pairs_by st) (steps_of n (at st.board n)))) 64 0 (λ n _ small. given_from a are n small)
      ∙ sym (ap (λ l. flat_map given (flat_map (pairs_by st) l)) (candidates-is st.board)
      ∙ (ap (flat_map given) (flat_map-flat_map (pairs_by st) (λ n. steps_of n (at st.board n)) (range_with_len 0 64))
      ∙ flat_map-flat_map given (λ n. flat_map (pairs_by st) (steps_of n (at st.board n))) (range_with_len 0 64))))

-- what the pairs give by their states is what the next states give
pub pairs_give : {Y : Type 0} (F : TurnState → List Y) (st : TurnState) → flat_map (λ (pr : Step × TurnState). F pr.1) (next_pairs st) ≡ flat_map F (next_states st)
unfolding next_pairs next_states
pairs_give F st =
    flat_map-flat_map (λ (pr : Step × TurnState). F pr.1) (pairs_by st) (candidates st.board)
    ∙ (flat_map-agree _ (λ s. flat_map F (states_by st s)) (candidates st.board) (λ s. flat_map-map (λ (pr : Step × TurnState). F pr.1) (λ next. (s, next)) (states_by st s))
    ∙ sym (flat_map-flat_map F (states_by st) (candidates st.board)))
