-- Steps in order after those of kept states: what is placed is, in its first occurrences, what all of them give.
use Rattle.std.proofs.Common.{◌≡◌, ℕ, suc, ◌<◌, List, [], ◌∷◌, ◌++◌, map, length, Bool, true, false, cond, inl, inr, ⊎_elim, Result, Err, refl, sym, ◌∙◌, ap, subst, arith, append_assoc, append-nil, true≢false}
use Rattle.std.specs.Prelude.{is_ok}
use Rattle.std.specs.Bool.{Decides}
use Rattle.std.specs.List.{flat_map, list_any}
use Rattle.std.proofs.lemmas.Bool.{false_from_ne_true}
use Rattle.arimaa_board.specs.declared.position.Position.{Position}
use Rattle.arimaa_board.specs.declared.position.Step.{Step}
use Rattle.arimaa_board.specs.Board.{settle}
use Rattle.arimaa_model.specs.Backward.{after_back}
use Rattle.arimaa_model.specs.declared.fault.TurnFault.{TurnFault}
use Rattle.arimaa_model.specs.Plain.{candidates}
use Rattle.arimaa_model.proofs.Lemmas.Lists.{flat_map-append}
use Rattle.arimaa_model.proofs.Lemmas.Members.{In, In-append, In-left, In-right, any-In, flat_map-In, In-flat_map}
use Rattle.arimaa_model.proofs.Lemmas.Pushers.{after_settled}
use Rattle.arimaa_region.specs.Same.{same_words, same_words-Decides, firsts, with_new}
use Rattle.arimaa_step.specs.declared.state.TurnState.{TurnState}
use Rattle.arimaa_step.specs.Next.{next_answer, next_state}
use Rattle.arimaa_step.specs.State.{state_of}
use Rattle.arimaa_step.specs.StateWords.{state_planes, state_in_planes}
use Rattle.arimaa_step.proofs.Lemmas.LeavingOut.{IsLess, AreLess, less_none, left_out}
use Rattle.arimaa_step.proofs.Lemmas.StepOrder.{Rising, candidates-rising, stands_before}
use Rattle.arimaa_step.proofs.Lemmas.FourthSteps.{with_steps, all_pairs}
use Rattle.arimaa_results.specs.Ahead.{states_by, next_states}
use Rattle.arimaa_results.specs.LastSteps.{is_next, left_after, brings_first, left_of_kept, brings_last}
use Rattle.arimaa_results.specs.Layers.{keeps, planes_after, layer}
use Rattle.arimaa_results.specs.NextStates.{pairs_by, next_pairs}
use Rattle.arimaa_results.proofs.Beginning.{grows_fits}
use Rattle.arimaa_results.proofs.Keeping.{with_new-there, with_new-old, with_new-new, In-firsts}
use Rattle.arimaa_results.proofs.Layers.{IsOf, In-next, In-next-grows, layer-of, layer-zero, layer-suc, decoded, decoded-of, start_gives}
use Rattle.arimaa_results.proofs.News.{news, firsts-news, new-absent}
use Rattle.arimaa_results.proofs.StatePairs.{pairs_by-is, states_by-is}
use Rattle.arimaa_results.proofs.Kept.{left_other}

-- a state, and a step that it accepts
abbrev pub Made : Type 0
Made = TurnState × Step

abbrev state_made : Made → TurnState
state_made u = next_state u.0 u.1

-- the words of the state that it makes
abbrev words : Made → List ℕ
words u = state_planes (state_made u)

abbrev news_of : List (List ℕ) → List (List ℕ) → List (List ℕ)
news_of seen ws = news same_words same_words-Decides seen ws

-- a state whose words were seen before is not the next of those that are new
old_not_next : (seen kept : List (List ℕ)) (st : TurnState) → ((w : List ℕ) → In w kept → In w seen → ⊥) → In (state_planes st) seen → is_next kept st ≡ false
old_not_next seen [] st new old = refl
old_not_next seen (v ∷ kept) st new old =
    false_from_ne_true (same_words v (state_planes st)) (λ e. new v (inl refl) (subst (λ (w : List ℕ). In w seen) (sym ((same_words-Decides v (state_planes st)).0 e)) old))

abbrev nothing : Result Position TurnFault → List Position
nothing end = []

none : (e : TurnFault) → nothing (Err e) ≡ []
none e = refl

-- all: what a state gives by one more step; some: what is placed for a step of a state
module _ {R : Type 0} (all : TurnState → List R) (some : TurnState → Step → List R) where
  abbrev pub Full : Made → List R
  Full u = all (state_made u)

  abbrev pub placed : List (List ℕ) → List Made → List R
  placed kept [] = []
  placed kept (u ∷ us) = cond (is_next kept (state_made u)) (some u.0 u.1) [] ++ placed (left_after kept (state_made u)) us

  -- what is placed for a step is what all steps after it give, less what those give that come earlier
  abbrev pub IsLessEach : Type 0
  IsLessEach = (st : TurnState) (s : Step) (before : List Made) → settle st.board ≡ st.board → st.count < 3 → ((t : Step) → In t (candidates st.board) → is_ok (next_answer st t) ≡ true → t.from < s.from → In (st, t) before) → IsLess (flat_map Full before) (Full (st, s)) (some st s)

  module _ (p : Position) where
    abbrev Decodes : Made → Type 0
    Decodes u = state_in_planes p (words u) ≡ state_made u

    -- a step after steps before it, among which are those of the same state that come earlier
    record IsMade (before : List Made) (u : Made) : Type 0 where
      calm : settle u.0.board ≡ u.0.board
      few : u.0.count < 3
      earlier : (t : Step) → In t (candidates u.0.board) → is_ok (next_answer u.0 t) ≡ true → t.from < u.1.from → In (u.0, t) before
      decodes : Decodes u

    abbrev AreMade : List Made → List Made → Type 0
    AreMade before [] = Unit {0}
    AreMade before (u ∷ us) = IsMade before u × AreMade (before ++ u ∷ []) us

    -- seen: the words of states that were made
    abbrev AreSeen : List Made → List (List ℕ) → Type 0
    AreSeen before seen = (w : List ℕ) → In w seen → (u : Made) × In u before × (w ≡ words u) × Decodes u

    seen_more : (before : List Made) (u : Made) (seen : List (List ℕ)) → AreSeen before seen → AreSeen (before ++ u ∷ []) seen
    seen_more before u seen from w i = let f = from w i in (f.0, In-left f.0 before (u ∷ []) f.1, f.2, f.3)

    seen_new : (before : List Made) (u : Made) (seen : List (List ℕ)) → Decodes u → AreSeen before seen → AreSeen (before ++ u ∷ []) (seen ++ words u ∷ [])
    seen_new before u seen dec from w i =
        ⊎_elim (λ j. seen_more before u seen from w j)
        (λ j. ⊎_elim (λ same. (u, In-right u before (u ∷ []) (inl refl), same, dec)) (λ no. absurd no) j)
        (In-append w seen (words u ∷ []) i)

    -- what is placed is what all steps give, less what stands before
    less : IsLessEach → (before us : List Made) (seen : List (List ℕ)) → AreMade before us → AreSeen before seen → AreLess Full before us (placed (news_of seen (map words us)) us)
    less each before [] seen made from = refl
    less each before (u ∷ us) seen made from =
        by_test (list_any (same_words (words u)) seen) refl
        (less each (before ++ u ∷ []) us seen made.1 (seen_more before u seen from))
        (less each (before ++ u ∷ []) us (seen ++ words u ∷ []) made.1 (seen_new before u seen made.0.decodes from)) where
          S : TurnState
          S = state_made u

          ws : List (List ℕ)
          ws = map words us

          tail : List (List ℕ)
          tail = news_of (seen ++ words u ∷ []) ws

          by_test : (v : Bool) → list_any (same_words (words u)) seen ≡ v
              → AreLess Full (before ++ u ∷ []) us (placed (news_of seen ws) us)
              → AreLess Full (before ++ u ∷ []) us (placed tail us)
              → AreLess Full before (u ∷ us) (placed (cond (list_any (same_words (words u)) seen) (news_of seen ws) (words u ∷ tail)) (u ∷ us))
          by_test true found rest _ =
              let one_seen = any-In (same_words (words u)) seen found in
              let there : In (words u) seen = subst (λ (w : List ℕ). In w seen) (sym ((same_words-Decides (words u) one_seen.0).0 one_seen.2)) one_seen.1 in
              let old = from (words u) there in
              let one : state_made u ≡ state_made old.0 = sym made.0.decodes ∙ (ap (state_in_planes p) old.2 ∙ old.3) in
              let other : is_next (news_of seen ws) S ≡ false = old_not_next seen (news_of seen ws) S (λ w i. new-absent same_words same_words-Decides seen ws w i) there in
              let known : (y : R) → In y (Full u) → In y (flat_map Full before) = λ y j.
              flat_map-In Full y old.0 before old.1 (subst (λ st. In y (all st)) one j) in
              subst (λ v. AreLess Full before (u ∷ us) (placed (cond v (news_of seen ws) (words u ∷ tail)) (u ∷ us))) (sym found)
              ([], placed (news_of seen ws) us, (λ i. cond (other i) (some u.0 u.1) [] ++ placed (left_other (news_of seen ws) S other i) us), less_none (flat_map Full before) (Full u) known, rest)
          by_test false absent _ rest =
              let same : same_words (words u) (words u) ≡ true = (same_words-Decides (words u) (words u)).1 refl in
              subst (λ v. AreLess Full before (u ∷ us) (placed (cond v (news_of seen ws) (words u ∷ tail)) (u ∷ us))) (sym absent)
              (some u.0 u.1, placed tail us, (λ i. cond (same i) (some u.0 u.1) [] ++ placed (cond (same i) tail (words u ∷ tail)) us), each u.0 u.1 before made.0.calm made.0.few made.0.earlier, rest)

    -- ---- every state with each of its steps

    record IsCalm (st : TurnState) : Type 0 where
      calm : settle st.board ≡ st.board
      few : st.count < 3
      decodes : (s : Step) → In s (candidates st.board) → is_ok (next_answer st s) ≡ true → Decodes (st, s)

    abbrev AreAllCalm : List TurnState → Type 0
    AreAllCalm [] = Unit {0}
    AreAllCalm (st ∷ sts) = IsCalm st × AreAllCalm sts

    module _ (st : TurnState) (is : IsCalm st) (others : List Made) where
      steps_made : (before : List Made) (done ts : List Step) → done ++ ts ≡ candidates st.board → ((t : Step) → In t done → is_ok (next_answer st t) ≡ true → In (st, t) before) → AreMade (before ++ with_steps nothing none st ts) others → AreMade before (with_steps nothing none st ts ++ others)
      steps_made before done [] whole made rest = subst (λ l. AreMade l others) (append-nil before) rest
      steps_made before done (s ∷ ts) whole made rest = by_answer (is_ok (next_answer st s)) refl rest (λ then new left. steps_made then (done ++ s ∷ []) ts more new left) where
        X : List Made
        X = with_steps nothing none st ts

        more : (done ++ s ∷ []) ++ ts ≡ candidates st.board
        more = append_assoc done (s ∷ []) ts ∙ whole

        here : In s (candidates st.board)
        here = subst (λ l. In s l) whole (In-right s done (s ∷ ts) (inl refl))

        earlier : (t : Step) → In t (candidates st.board) → is_ok (next_answer st t) ≡ true → t.from < s.from → In (st, t) before
        earlier t i ok low = made t (stands_before done ts s t (subst Rising (sym whole) (candidates-rising st.board)) (subst (λ l. In t l) (sym whole) i) low) ok

        by_answer : (v : Bool) → is_ok (next_answer st s) ≡ v → AreMade (before ++ cond v ((st, s) ∷ X) X) others
            → ((then : List Made) → ((t : Step) → In t (done ++ s ∷ []) → is_ok (next_answer st t) ≡ true → In (st, t) then) → AreMade (then ++ X) others → AreMade then (X ++ others))
            → AreMade before (cond v ((st, s) ∷ X) X ++ others)
        by_answer true e rest go =
            let new : (t : Step) → In t (done ++ s ∷ []) → is_ok (next_answer st t) ≡ true → In (st, t) (before ++ (st, s) ∷ []) =
            λ t i ok. ⊎_elim
            (λ j. In-left (st, t) before ((st, s) ∷ []) (made t j ok))
            (λ j. ⊎_elim (λ same. In-right (st, t) before ((st, s) ∷ []) (inl (ap (λ (u : Step). (st, u)) same))) (λ no. absurd no) j)
            (In-append t done (s ∷ []) i) in
            let left : AreMade ((before ++ (st, s) ∷ []) ++ X) others = subst (λ l. AreMade l others) (sym (append_assoc before ((st, s) ∷ []) X)) rest in
            (record { calm = is.calm; few = is.few; earlier = earlier; decodes = is.decodes s here e }, go (before ++ (st, s) ∷ []) new left)
        by_answer false e rest go =
            let new : (t : Step) → In t (done ++ s ∷ []) → is_ok (next_answer st t) ≡ true → In (st, t) before =
            λ t i ok. ⊎_elim
            (λ j. made t j ok)
            (λ j. ⊎_elim (λ same. absurd (true≢false (sym ok ∙ (ap (λ (u : Step). is_ok (next_answer st u)) same ∙ e)))) (λ no. absurd no) j)
            (In-append t done (s ∷ []) i) in
            go before new rest

    all_made : (before : List Made) (sts : List TurnState) → AreAllCalm sts → AreMade before (all_pairs nothing none sts)
    all_made before [] are = tt
    all_made before (st ∷ sts) are =
        steps_made st are.0 (all_pairs nothing none sts) before [] (candidates st.board) refl (λ t i ok. absurd i) (all_made (before ++ with_steps nothing none st (candidates st.board)) sts are.1)

  -- ---- the same by the lists of states and pairs

  abbrev A : TurnState → Step → Bool
  A st s = is_ok (next_answer st s)

  -- what the states give that some steps make
  steps_bring : (st : TurnState) (ts : List Step) → flat_map Full (with_steps nothing none st ts) ≡ flat_map all (flat_map (states_by st) ts)
  steps_bring st [] = refl
  steps_bring st (s ∷ ts) =
      by_answer (A st s) (steps_bring st ts)
      ∙ (sym (flat_map-append all (cond (A st s) (next_state st s ∷ []) []) (flat_map (states_by st) ts))
      ∙ ap (λ l. flat_map all (l ++ flat_map (states_by st) ts)) (sym (states_by-is st s))) where
        X : List Made
        X = with_steps nothing none st ts

        by_answer : (v : Bool) → flat_map Full X ≡ flat_map all (flat_map (states_by st) ts) → flat_map Full (cond v ((st, s) ∷ X) X) ≡ flat_map all (cond v (next_state st s ∷ []) []) ++ flat_map all (flat_map (states_by st) ts)
        by_answer true e = λ i. (sym (append-nil (all (next_state st s)))) i ++ e i
        by_answer false e = e

  module _ (p : Position) where
    abbrev D : List ℕ → TurnState
    D w = state_in_planes p w

    pairs_bring : (ws : List (List ℕ)) → flat_map Full (all_pairs nothing none (map D ws)) ≡ flat_map (λ w. flat_map all (next_states (D w))) ws
    unfolding next_states
    pairs_bring [] = refl
    pairs_bring (w ∷ ws) =
        flat_map-append Full (with_steps nothing none (D w) (candidates (D w).board)) (all_pairs nothing none (map D ws))
        ∙ (λ i. steps_bring (D w) (candidates (D w).board) i ++ pairs_bring ws i)

    -- what is placed for the steps of one state, and then for others
    steps_placed : (st : TurnState) (ts : List Step) (kept : List (List ℕ)) (us : List Made) → placed kept (with_steps nothing none st ts ++ us) ≡ brings_first some st kept (flat_map (pairs_by st) ts) ++ placed (left_of_kept kept (flat_map (pairs_by st) ts)) us
    unfolding brings_first left_of_kept
    steps_placed st [] kept us = refl
    steps_placed st (s ∷ ts) kept us =
        by_answer (A st s) (steps_placed st ts kept us) (steps_placed st ts (left_after kept (next_state st s)) us)
        ∙ (λ i. both ((sym (pairs_by-is st s)) i)) where
          S : TurnState
          S = next_state st s

          rest : List (Step × TurnState)
          rest = flat_map (pairs_by st) ts

          X : List Made
          X = with_steps nothing none st ts

          both : List (Step × TurnState) → List R
          both first = brings_first some st kept (first ++ rest) ++ placed (left_of_kept kept (first ++ rest)) us

          by_answer : (v : Bool) → placed kept (X ++ us) ≡ brings_first some st kept rest ++ placed (left_of_kept kept rest) us
              → placed (left_after kept S) (X ++ us) ≡ brings_first some st (left_after kept S) rest ++ placed (left_of_kept (left_after kept S) rest) us
              → placed kept (cond v ((st, s) ∷ X) X ++ us) ≡ both (cond v ((s, S) ∷ []) [])
          by_answer true _ e =
              ap (λ l. cond (is_next kept S) (some st s) [] ++ l) e
              ∙ sym (append_assoc (cond (is_next kept S) (some st s) []) (brings_first some st (left_after kept S) rest) (placed (left_of_kept (left_after kept S) rest) us))
          by_answer false e _ = e

    pairs_placed : (ws kept : List (List ℕ)) → placed kept (all_pairs nothing none (map D ws)) ≡ brings_last some p kept ws
    unfolding brings_last next_pairs
    pairs_placed [] kept = refl
    pairs_placed (w ∷ ws) kept =
        steps_placed (D w) (candidates (D w).board) kept (all_pairs nothing none (map D ws))
        ∙ ap (λ l. brings_first some (D w) kept (next_pairs (D w)) ++ l) (pairs_placed ws (left_of_kept kept (next_pairs (D w))))

    -- the words of the states that are made
    steps_words : (st : TurnState) (ts : List Step) (us : List Made) → map words (with_steps nothing none st ts ++ us) ≡ flat_map keeps (flat_map (states_by st) ts) ++ map words us
    steps_words st [] us = refl
    steps_words st (s ∷ ts) us =
        by_answer (A st s) (steps_words st ts us)
        ∙ (λ i. flat_map keeps ((sym (states_by-is st s)) i ++ flat_map (states_by st) ts) ++ map words us) where
          by_answer : (v : Bool) → map words (with_steps nothing none st ts ++ us) ≡ flat_map keeps (flat_map (states_by st) ts) ++ map words us → map words (cond v ((st, s) ∷ with_steps nothing none st ts) (with_steps nothing none st ts) ++ us) ≡ flat_map keeps (cond v (next_state st s ∷ []) [] ++ flat_map (states_by st) ts) ++ map words us
          by_answer true e = ap (λ l. words (st, s) ∷ l) e
          by_answer false e = e

    pairs_words : (ws : List (List ℕ)) → map words (all_pairs nothing none (map D ws)) ≡ flat_map (planes_after p) ws
    unfolding planes_after next_states
    pairs_words [] = refl
    pairs_words (w ∷ ws) =
        steps_words (D w) (candidates (D w).board) (all_pairs nothing none (map D ws))
        ∙ ap (λ l. flat_map keeps (next_states (D w)) ++ l) (pairs_words ws)

    module _ (long : length p.board ≡ 64) where
      -- the state after at most two steps, on a board on which no trap is due
      calm_state : (back : List Step) → length back < 3 → settle (after_back p.board back) ≡ after_back p.board back → IsCalm p (state_of p back)
      unfolding next_states
      calm_state back few calm = record {
        calm = calm;
        few = few;
        decodes = λ s k ok.
            let there : In (next_state (state_of p back) s) (next_states (state_of p back)) =
            flat_map-In (states_by (state_of p back)) (next_state (state_of p back) s) s (candidates (after_back p.board back)) k
            (subst (λ l. In (next_state (state_of p back) s) l) (sym (states_by-is (state_of p back) s ∙ ap (λ v. cond v (next_state (state_of p back) s ∷ []) []) ok)) (inl refl)) in
            let next = In-next p back (next_state (state_of p back) s) (omega arith) there in
            ap (λ st. D (state_planes st)) next.1 ∙ (decoded p long (next.0 ∷ back) (omega arith) ∙ sym next.1);
      }

      -- the states after one or two steps
      calm_at : (n : ℕ) → n < 2 → (w : List ℕ) → In w (layer p (suc n)) → IsCalm p (D w)
      unfolding planes_after
      calm_at n low w i =
          let j = ⊎_elim (λ no. absurd no) (λ k. k) (In-firsts same_words same_words-Decides w [] (flat_map (planes_after p) (layer p n)) (subst (λ l. In w l) (layer-suc p n) i)) in
          let from = In-flat_map (planes_after p) w (layer p n) j in
          let before : IsOf p n from.0 = layer-of p long n (omega arith) from.0 from.1 in
          let by = In-flat_map keeps w (next_states (D from.0)) from.2 in
          let state : D from.0 ≡ state_of p before.0 = decoded-of p long n from.0 before (omega arith) in
          let one = In-next-grows p before.0 by.0 (omega (arith, before.1)) (subst (λ (st : TurnState). In by.0 (next_states st)) state by.1) in
          let back : List Step = one.0 ∷ before.0 in
          let count : length back ≡ suc n = ap suc before.1 in
          let is_words : w ≡ state_planes by.0 = ⊎_elim (λ e. e) (λ no. absurd no) by.2 in
          let is : D w ≡ state_of p back = ap D (is_words ∙ ap state_planes one.1) ∙ decoded p long back (omega arith) in
          subst (IsCalm p) (sym is) (calm_state back (omega arith) (after_settled (after_back p.board before.0) one.0 (grows_fits p.board p.side one.0 before.0 one.2)))

      all_calm : (n : ℕ) → n < 2 → (ws : List (List ℕ)) → ((w : List ℕ) → In w ws → In w (layer p (suc n))) → AreAllCalm p (map D ws)
      all_calm n low [] among = tt
      all_calm n low (w ∷ ws) among = (calm_at n low w (among w (inl refl)), all_calm n low ws (λ v i. among v (inr i)))

      module _ (same : R → R → Bool) (decides : (x y : R) → Decides (same x y) (x ≡ y)) (each : IsLessEach) where
        -- what is placed in order after the states of a layer, on whose boards no trap is due
        calm_in_order : (n : ℕ) → AreAllCalm p (map D (layer p n)) → (q : List R)
            → firsts same q (brings_last some p (layer p (suc n)) (layer p n)) ≡ firsts same q (flat_map (λ w. flat_map all (next_states (D w))) (layer p n))
        calm_in_order n calm q =
            let L = layer p n in
            let us = all_pairs nothing none (map D L) in
            let kept : layer p (suc n) ≡ news_of [] (map words us) =
            layer-suc p n ∙ (firsts-news same_words same_words-Decides [] (flat_map (planes_after p) L) ∙ ap (news_of []) (sym (pairs_words L))) in
            let fewer : AreLess Full [] us (placed (news_of [] (map words us)) us) =
            less p each [] us [] (all_made p [] (map D L) calm) (λ w i. absurd i) in
            let out : firsts same q (flat_map Full us) ≡ firsts same q (placed (news_of [] (map words us)) us) =
            left_out (firsts same) (with_new same) (λ l. refl) (λ l xs x. refl) (with_new-there same decides) (with_new-old same decides) (with_new-new same decides) Full us q (placed (news_of [] (map words us)) us) fewer in
            ap (firsts same q) (sym (pairs_placed L (layer p (suc n))) ∙ ap (λ l. placed l us) kept)
            ∙ (sym out ∙ ap (firsts same q) (pairs_bring L))

        -- what is placed in order adds what all steps after the states of a layer give
        pub in_order : (n : ℕ) → n < 2 → (q : List R)
            → firsts same q (brings_last some p (layer p (suc (suc n))) (layer p (suc n))) ≡ firsts same q (flat_map (λ w. flat_map all (next_states (D w))) (layer p (suc n)))
        in_order n low q = calm_in_order (suc n) (all_calm n low (layer p (suc n)) (λ w i. i)) q

        -- so it does after the start board, where no trap of it is due
        pub start_in_order : settle p.board ≡ p.board → (q : List R)
            → firsts same q (brings_first some (state_of p []) (layer p 1) (next_pairs (state_of p []))) ≡ firsts same q (flat_map all (next_states (state_of p [])))
        unfolding brings_last
        start_in_order calm q =
            let w = state_planes (state_of p []) in
            let state : D w ≡ state_of p [] = decoded p long [] (omega arith) in
            let one : brings_last some p (layer p 1) (layer p 0) ≡ brings_first some (state_of p []) (layer p 1) (next_pairs (state_of p [])) =
            ap (brings_last some p (layer p 1)) (layer-zero p)
            ∙ (append-nil (brings_first some (D w) (layer p 1) (next_pairs (D w)))
            ∙ ap (λ st. brings_first some st (layer p 1) (next_pairs st)) state) in
            let every : flat_map (λ v. flat_map all (next_states (D v))) (layer p 0) ≡ flat_map all (next_states (state_of p [])) = start_gives p long (λ st. flat_map all (next_states st)) in
            let are : AreAllCalm p (map D (layer p 0)) = subst (λ l. AreAllCalm p (map D l)) (sym (layer-zero p)) (subst (IsCalm p) (sym state) (calm_state [] (omega arith) calm), tt) in
            ap (firsts same q) (sym one) ∙ (calm_in_order 0 are q ∙ ap (firsts same q) every)
