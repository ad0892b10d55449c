-- The second, third and fourth steps in order: what they give is, in its first occurrences, what all of them do.
use Rattle.std.proofs.Common.{◌≡◌, ℕ, suc, ◌<◌, List, [], ◌∷◌, length, Bool, true, false, cond, ◌⊎◌, inl, inr, Result, Err, refl, sym, ◌∙◌, ap, subst, arith, append-nil}
use Rattle.std.specs.Prelude.{is_ok}
use Rattle.std.specs.List.{flat_map}
use Rattle.arimaa_board.specs.declared.position.Position.{Position}
use Rattle.arimaa_board.specs.declared.position.Step.{Step}
use Rattle.arimaa_board.specs.Board.{settle}
use Rattle.arimaa_model.specs.declared.fault.TurnFault.{TurnFault}
use Rattle.arimaa_model.specs.Plain.{candidates}
use Rattle.arimaa_model.specs.Results.{same_position}
use Rattle.arimaa_model.proofs.Lemmas.Lists.{flat_map-agree, flat_map-flat_map}
use Rattle.arimaa_model.proofs.Lemmas.Members.{In, flat_map-In}
use Rattle.arimaa_model.proofs.Lemmas.Positions.{same_position-Decides}
use Rattle.arimaa_region.specs.Same.{same_words, same_words-Decides, firsts}
use Rattle.arimaa_step.specs.declared.state.TurnState.{TurnState}
use Rattle.arimaa_step.specs.CommutingSteps.{comes_turned}
use Rattle.arimaa_step.specs.Next.{next_answer, next_state, state_end}
use Rattle.arimaa_step.specs.State.{state_of}
use Rattle.arimaa_step.specs.StateWords.{state_planes, state_in_planes}
use Rattle.arimaa_step.proofs.Lemmas.FourthSteps.{ends, fourth_less}
use Rattle.arimaa_step.proofs.Lemmas.LeavingOut.{IsLess, less_parts}
use Rattle.arimaa_step.proofs.Lemmas.ThirdSteps.{IsTurned, is_turned}
use Rattle.arimaa_results.specs.Ahead.{states_by, next_states, given_by, brings_now, brings}
use Rattle.arimaa_results.specs.LastSteps.{gives_in_order, next_in_order, brings_in_order, brings_first, brings_last}
use Rattle.arimaa_results.specs.Layers.{keeps, planes_after, layer, brought_from}
use Rattle.arimaa_results.specs.NextStates.{next_pairs}
use Rattle.arimaa_results.proofs.Bringing.{brings-suc, brings-zero}
use Rattle.arimaa_results.proofs.InOrder.{Made, in_order, start_in_order}
use Rattle.arimaa_results.proofs.Keeping.{flat_map-among, one_layer}
use Rattle.arimaa_results.proofs.Layers.{In-next, layer-of, layer-suc, decoded, decoded-of, start_gives, opens}
use Rattle.arimaa_results.proofs.StatePairs.{states_by-is}

-- ---- next steps, each with what its state gives

module _ {R : Type 0} (given : TurnState → List R) where
  abbrev pub Nexts : TurnState → List R
  Nexts st = flat_map (λ t. flat_map given (states_by st t)) (candidates st.board)

  pub nexts-is : (st : TurnState) → Nexts st ≡ flat_map given (next_states st)
  unfolding next_states
  nexts-is st = sym (flat_map-flat_map given (states_by st) (candidates st.board))

  abbrev After : Made → List R
  After u = Nexts (next_state u.0 u.1)

  -- what a state that is made gives
  ok_gives : (st : TurnState) (s : Step) → is_ok (next_answer st s) ≡ true → flat_map given (states_by st s) ≡ flat_map given (next_state st s ∷ [])
  ok_gives st s ok = ap (flat_map given) (states_by-is st s ∙ ap (λ v. cond v (next_state st s ∷ []) []) ok)

  none_gives : (st : TurnState) (s : Step) → is_ok (next_answer st s) ≡ false → flat_map given (states_by st s) ≡ []
  none_gives st s stuck = ap (flat_map given) (states_by-is st s ∙ ap (λ v. cond v (next_state st s ∷ []) []) stuck)

  -- what is left out stands already
  pub next_less : (st : TurnState) (s : Step) (before : List Made) → settle st.board ≡ st.board → st.count < 3 → ((t : Step) → In t (candidates st.board) → is_ok (next_answer st t) ≡ true → t.from < s.from → In (st, t) before) → IsLess (flat_map After before) (After (st, s)) (next_in_order given st s)
  next_less st s before calm few made =
      less_parts (flat_map After before) (λ t. flat_map given (states_by S t)) (gives_in_order given st s) (candidates S.board) (λ t i. by_test t (comes_turned st s t) refl) where
        S : TurnState
        S = next_state st s

        stands : (t : Step) → comes_turned st s t ≡ true → is_ok (next_answer S t) ≡ true → (y : R) → In y (flat_map given (states_by S t)) → In y (flat_map After before)
        stands t out ok y j =
            let turned : IsTurned st s t = is_turned st s t calm few ok out in
            let T = next_state st t in
            let same : flat_map given (states_by S t) ≡ flat_map given (states_by T s) = ok_gives S t ok ∙ (ap (λ u. flat_map given (u ∷ [])) (sym turned.state) ∙ sym (ok_gives T s turned.second)) in
            flat_map-In After y (st, t) before (made t turned.first_there turned.first turned.lower)
            (flat_map-In (λ u. flat_map given (states_by T u)) y s (candidates T.board) turned.second_there (subst (λ l. In y l) same j))

        by_answer : (t : Step) (v : Bool) → is_ok (next_answer S t) ≡ v → comes_turned st s t ≡ true → (y : R) → In y (flat_map given (states_by S t)) → In y (flat_map After before)
        by_answer t true ok out y j = stands t out ok y j
        by_answer t false stuck out y j = absurd (subst (λ l. In y l) (none_gives S t stuck) j)

        by_test : (t : Step) (v : Bool) → comes_turned st s t ≡ v → (gives_in_order given st s t ≡ flat_map given (states_by S t)) ⊎ ((gives_in_order given st s t ≡ []) × ((y : R) → In y (flat_map given (states_by S t)) → In y (flat_map After before)))
        by_test t false e = inl (ap (λ v. cond v [] (flat_map given (states_by S t))) e)
        by_test t true e = inr (ap (λ v. cond v [] (flat_map given (states_by S t))) e, λ y j. by_answer t (is_ok (next_answer S t)) refl e y j)

module _ (barred : List Position) where
  abbrev G : Result Position TurnFault → List Position
  G end = given_by barred end

  none : (e : TurnFault) → G (Err e) ≡ []
  none e = refl

  abbrev Fourths : TurnState → List Position
  Fourths st = flat_map (ends G none st) (candidates st.board)

  -- what a state brings about by its last steps
  fourths-bring : (st : TurnState) → Fourths st ≡ brings barred 1 st
  unfolding next_states brings_now
  fourths-bring st =
      sym (brings-suc barred 0 st
      ∙ (flat_map-flat_map (brings barred 0) (states_by st) (candidates st.board)
      ∙ flat_map-agree (λ t. flat_map (brings barred 0) (states_by st t)) (ends G none st) (candidates st.board) each)) where
        each : (t : Step) → flat_map (brings barred 0) (states_by st t) ≡ ends G none st t
        each t =
            ap (flat_map (brings barred 0)) (states_by-is st t)
            ∙ elim (is_ok (next_answer st t)) as (λ v. flat_map (brings barred 0) (cond v (next_state st t ∷ []) []) ≡ cond v (G (state_end (next_state st t))) []) [
              | true ↦ append-nil (brings barred 0 (next_state st t)) ∙ brings-zero barred (next_state st t)
              | false ↦ refl
            ]

  nexts-bring : (st : TurnState) → Nexts (brings barred 0) st ≡ brings barred 1 st
  nexts-bring st = nexts-is (brings barred 0) st ∙ sym (brings-suc barred 0 st)

  module _ (p : Position) (long : length p.board ≡ 64) where
    abbrev D : List ℕ → TurnState
    D w = state_in_planes p w

    -- what all steps after the states of a layer bring about is what one more step does from the next layer
    next_brings : (all : TurnState → List Position) → ((st : TurnState) → all st ≡ brings barred 1 st) → (n : ℕ) → n < 4 → (q : List Position)
        → firsts same_position q (flat_map (λ w. flat_map all (next_states (D w))) (layer p n)) ≡ firsts same_position q (brought_from barred p (suc n))
    next_brings all is n low q =
        ap (firsts same_position q) (flat_map-agree (λ w. flat_map all (next_states (D w))) (λ w. brings barred 2 (D w)) (layer p n) (λ w. flat_map-agree all (brings barred 1) (next_states (D w)) is ∙ sym (brings-suc barred 1 (D w))))
        ∙ (sym (one_layer same_words same_words-Decides same_position same_position-Decides (λ w. brings barred 1 (D w)) (λ w. brings barred 2 (D w)) (planes_after p) q (layer p n) (opens p long barred n 1 low))
        ∙ ap (λ l. firsts same_position q (flat_map (λ w. brings barred 1 (D w)) l)) (sym (layer-suc p n)))

    -- what the last steps in order bring about adds what all last steps would
    pub fourth_in_order : (q : List Position) → firsts same_position q (brings_last (brings_in_order barred) p (layer p 3) (layer p 2)) ≡ firsts same_position q (brought_from barred p 3)
    fourth_in_order q =
        in_order Fourths (brings_in_order barred) p long same_position same_position-Decides (fourth_less G none) 1 (omega arith) q
        ∙ next_brings Fourths fourths-bring 2 (omega arith) q

    -- what the third steps in order bring about adds what all third steps would
    pub third_in_order : (q : List Position) → firsts same_position q (brings_last (next_in_order (brings barred 0)) p (layer p 2) (layer p 1)) ≡ firsts same_position q (brought_from barred p 2)
    third_in_order q =
        in_order (Nexts (brings barred 0)) (next_in_order (brings barred 0)) p long same_position same_position-Decides (next_less (brings barred 0)) 0 (omega arith) q
        ∙ next_brings (Nexts (brings barred 0)) nexts-bring 1 (omega arith) q

    -- so do the second steps in order, where no trap of the start board is due
    pub second_in_order : settle p.board ≡ p.board → (q : List Position)
        → firsts same_position q (brings_first (next_in_order (brings barred 0)) (state_of p []) (layer p 1) (next_pairs (state_of p []))) ≡ firsts same_position q (brought_from barred p 1)
    second_in_order calm q =
        start_in_order (Nexts (brings barred 0)) (next_in_order (brings barred 0)) p long same_position same_position-Decides (next_less (brings barred 0)) calm q
        ∙ (ap (firsts same_position q) (sym (start_gives p long (λ st. flat_map (Nexts (brings barred 0)) (next_states st))))
        ∙ next_brings (Nexts (brings barred 0)) nexts-bring 0 (omega arith) q)

-- ---- the states that are kept

module _ (p : Position) (long : length p.board ≡ 64) where
  -- the states after those of a layer
  words_open : (n : ℕ) → n < 3 → (w : List ℕ) → In w (layer p n) → flat_map (Nexts keeps) (next_states (state_in_planes p w)) ≡ flat_map (planes_after p) (planes_after p w)
  unfolding planes_after
  words_open n low w i =
      let of = layer-of p long n (omega arith) w i in
      let state : state_in_planes p w ≡ state_of p of.0 = decoded-of p long n w of (omega arith) in
      let same : (st : TurnState) → In st (next_states (state_in_planes p w)) → Nexts keeps st ≡ flat_map (planes_after p) (keeps st) = λ st j.
      let one = In-next p of.0 st (omega (arith, of.1)) (subst (λ (s : TurnState). In st (next_states s)) state j) in
      let back : state_in_planes p (state_planes st) ≡ st = ap (λ s. state_in_planes p (state_planes s)) one.1 ∙ (decoded p long (one.0 ∷ of.0) (omega (arith, of.1)) ∙ sym one.1) in
      nexts-is keeps st ∙ (ap (λ s. flat_map keeps (next_states s)) (sym back) ∙ sym (append-nil (planes_after p (state_planes st)))) in
      flat_map-among (Nexts keeps) (λ st. flat_map (planes_after p) (keeps st)) (next_states (state_in_planes p w)) same
      ∙ sym (flat_map-flat_map (planes_after p) keeps (next_states (state_in_planes p w)))

  -- what all steps after the states of a layer keep is the layer after the next
  next_keeps : (n : ℕ) → n < 3 → firsts same_words [] (flat_map (λ w. flat_map (Nexts keeps) (next_states (state_in_planes p w))) (layer p n)) ≡ layer p (suc (suc n))
  next_keeps n low =
      sym (one_layer same_words same_words-Decides same_words same_words-Decides (planes_after p) (λ w. flat_map (Nexts keeps) (next_states (state_in_planes p w))) (planes_after p) [] (layer p n) (words_open n low))
      ∙ (ap (λ l. firsts same_words [] (flat_map (planes_after p) l)) (sym (layer-suc p n))
      ∙ sym (layer-suc p (suc n)))

  -- the third steps in order make the states of the third layer
  pub thirds_kept : firsts same_words [] (brings_last (next_in_order keeps) p (layer p 2) (layer p 1)) ≡ layer p 3
  thirds_kept =
      in_order (Nexts keeps) (next_in_order keeps) p long same_words same_words-Decides (next_less keeps) 0 (omega arith) []
      ∙ next_keeps 1 (omega arith)

  -- the second steps in order make those of the second layer, where no trap of the start board is due
  pub seconds_kept : settle p.board ≡ p.board → firsts same_words [] (brings_first (next_in_order keeps) (state_of p []) (layer p 1) (next_pairs (state_of p []))) ≡ layer p 2
  seconds_kept calm =
      start_in_order (Nexts keeps) (next_in_order keeps) p long same_words same_words-Decides (next_less keeps) calm []
      ∙ (ap (firsts same_words []) (sym (start_gives p long (λ st. flat_map (Nexts keeps) (next_states st))))
      ∙ next_keeps 0 (omega arith))
