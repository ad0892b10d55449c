-- The escapes of a position that is not won hold it.
use Rattle.std.proofs.Common.{◌≡◌, ℕ, zero, suc, ◌-◌, ◌≤◌, List, [], ◌∷◌, ◌++◌, map, Option, None, Some, Bool, true, false, cond, not, ◌&&◌, ◌⊎◌, is_none, inl, inr, ⊎_elim, refl, sym, ◌∙◌, ap, subst, arith, true≢false, append_assoc, le-leb}
use Rattle.std.specs.List.{find, filter, flat_map, list_any, list_all}
use Rattle.std.specs.Option.{unwrap_or}
use Rattle.std.proofs.lemmas.Bool.{false_from_ne_true, not_from_false, not-true, both_ways, or_left, or_right, and_parts, and_from}
use Rattle.std.proofs.lemmas.List.{append-nil}
use Rattle.arimaa_board.specs.declared.piece.Color.{Color}
use Rattle.arimaa_board.specs.Board.{same_color}
use Rattle.arimaa_board.specs.declared.position.Position.{Position}
use Rattle.arimaa_board.specs.declared.position.Step.{Step}
use Rattle.arimaa_model.specs.DecidedPositions.{decided}
use Rattle.arimaa_model.specs.Results.{stands_in, result_of, turn_lists, next}
use Rattle.arimaa_model.specs.Wins.{wins, wins_among}
use Rattle.arimaa_model.specs.Strategies.{Planned, open_replies, open_after}
use Rattle.arimaa_model.proofs.Lemmas.WinsLaws.{wins-decided, wins-stuck, wins-deeper, is_nil-true}
use Rattle.arimaa_model.proofs.Lemmas.Ranking.{by-cases, some-length}
use Rattle.arimaa_model.proofs.Lemmas.Members.{In, In-append, In-left, In-right, In-filter, filter-In, In-any, In-all, find-is, find-some, In-flat_map, flat_map-In}
use Rattle.arimaa_model.proofs.Lemmas.Positions.{same_position-same, same_color-Decides, stands-In, In-stands, results-turn, results-side, next-results}
use Rattle.arimaa_model.proofs.Lemmas.Meeting.{side-own, side-other, ready-wants, wants-ready, is_none-None}
use Rattle.arimaa_forced.specs.Entries.{planned_of, has_right_marks, entry_with_marks}
use Rattle.arimaa_forced.proofs.Lemmas.NotedEntries.{planned-written, written-marked}
use Rattle.arimaa_refute.specs.declared.escape.Escape.{Escape}
use Rattle.arimaa_refute.specs.Escapes.{is_escape_of, has_escape, can_wait, safe_for, is_safe, are_safe, held_for, is_held, IsGoodEscape, AreGoodEscapes, Holds}
use Rattle.arimaa_refute.specs.OwnEscapes.{IsUnwon as IsUnwonIn, evades, first_evasion, escape_at, after_escape, fresh, escapes_from, escapes_of}

-- a list where not all pass has a member that fails
failing : (t : Position → Bool) (xs : List Position) → list_all t xs ≡ false → (x : Position) × In x xs × (t x ≡ false)
failing t [] h = absurd (true≢false h)
failing t (x ∷ xs) h =
    elim (t x) as (λ v. t x ≡ v → (v && list_all t xs) ≡ false → (y : Position) × In y (x ∷ xs) × (t y ≡ false)) [
      | true ↦ λ _ rest. let deep = failing t xs rest in (deep.0, inr deep.1, deep.2)
      | false ↦ λ here _. (x, inl refl, here)
    ] refl h

-- ---- marks

abbrev first_or : Planned → List Planned → Planned
first_or x [] = x
first_or x (y ∷ ys) = y

plan-same : (x : Planned) → planned_of (entry_with_marks x) ≡ x
plan-same x = ap (λ (l : List Planned). first_or x l) (planned-written (x ∷ []))

marks-same : (x : Planned) → has_right_marks (entry_with_marks x) ≡ true
marks-same x = (and_parts _ _ (written-marked (x ∷ []))).0

-- ---- positions that are new

-- each of these positions is neither among those that were met nor earlier in the list
abbrev AllFresh : List Position → List Position → Type 0
AllFresh met [] = Unit {0}
AllFresh met (q ∷ qs) = (stands_in met q ≡ false) × AllFresh (met ++ q ∷ []) qs

fresh-all : (met qs : List Position) → AllFresh met (fresh met qs)
fresh-all met [] = tt
fresh-all met (q ∷ qs) =
    elim (stands_in met q) as (λ v. stands_in met q ≡ v → AllFresh met (cond v (fresh met qs) (q ∷ fresh (met ++ q ∷ []) qs))) [
      | true ↦ λ _. fresh-all met qs
      | false ↦ λ is. (is, fresh-all (met ++ q ∷ []) qs)
    ] refl

pub In-fresh : (x : Position) (met qs : List Position) → In x (fresh met qs) → In x qs
In-fresh x met [] i = absurd i
In-fresh x met (q ∷ qs) i =
    elim (stands_in met q) as (λ v. In x (cond v (fresh met qs) (q ∷ fresh (met ++ q ∷ []) qs)) → In x (q ∷ qs)) [
      | true ↦ λ j. inr (In-fresh x met qs j)
      | false ↦ λ j. ⊎_elim (λ e. inl e) (λ k. inr (In-fresh x (met ++ q ∷ []) qs k)) j
    ] i

fresh-In : (x : Position) (met qs : List Position) → In x qs → In x met ⊎ In x (fresh met qs)
fresh-In x met [] i = absurd i
fresh-In x met (q ∷ qs) i =
    elim (stands_in met q) as (λ v. stands_in met q ≡ v → In x met ⊎ In x (cond v (fresh met qs) (q ∷ fresh (met ++ q ∷ []) qs))) [
      | true ↦ λ there. ⊎_elim (λ (e : x ≡ q). inl (subst (λ (y : Position). In y met) (sym e) (stands-In met q there))) (λ j. fresh-In x met qs j) i
      | false ↦ λ _. ⊎_elim
          (λ (e : x ≡ q). inr (inl e))
          (λ j. ⊎_elim
          (λ old. ⊎_elim (λ l. inl l) (λ r. ⊎_elim (λ e. inr (inl e)) (λ none. absurd none) r) (In-append x met (q ∷ []) old))
          (λ new. inr (inr new))
          (fresh-In x (met ++ q ∷ []) qs j))
          i
    ] refl

-- ---- positions that are not won

module _ (a : Color) (barred : List Position) where
  abbrev IsUnwon : ℕ → Position → Type 0
  IsUnwon d p = IsUnwonIn a barred d p

  -- the first evasion leads to r, which is not won within k turns
  pub record Evades (k : ℕ) (p r : Position) : Type 0 where
    pub turn : result_of p (first_evasion a barred k p) ≡ Some r
    pub inside : In r (next barred p)
    pub lost : wins a barred k r ≡ false

  evaded : (k : ℕ) (p : Position) (s : List Step) (o : Option Position) → result_of p s ≡ o → first_evasion a barred k p ≡ s → evades a barred k p o ≡ true → (r : Position) × Evades k p r
  evaded k p s None is first h = absurd (true≢false (sym h))
  evaded k p s (Some r) is first h =
      let parts = and_parts _ _ h in
      (r, record { turn = ap (λ l. result_of p l) first ∙ is; inside = stands-In (next barred p) r parts.0; lost = not-true _ parts.1 })

  first-is : (k : ℕ) (p : Position) (s : List Step) → find (λ steps. evades a barred k p (result_of p steps)) turn_lists ≡ Some s → first_evasion a barred k p ≡ s
  unfolding first_evasion
  first-is k p s found = ap (λ o. unwrap_or o []) found

  pub evasion : (k : ℕ) (p : Position) → IsUnwon (suc k) p → (r : Position) × Evades k p r
  evasion k p h =
      by-cases a barred p ((r : Position) × Evades k p r)
      (λ e is. let wrong : true ≡ false = cc in absurd (true≢false wrong))
      (λ _ none. absurd (both_ways _ h.lost (wins-stuck a barred p (suc k) h.undecided none ∙ ap not h.side)))
      (λ q _ i.
      let deeper : list_all (wins a barred k) (next barred p) ≡ false =
      sym (wins-deeper a barred p k h.undecided (some-length q (next barred p) i) ∙ ap (λ v. wins_among v (wins a barred k) (next barred p)) h.side) ∙ h.lost in
      let r = failing (wins a barred k) (next barred p) deeper in
      let turn = results-turn p r.0 (next-results barred p r.0 r.1) in
      let good : evades a barred k p (Some r.0) ≡ true = and_from _ _ (In-stands (next barred p) r.0 r.1) (not_from_false _ r.2) in
      let passes : evades a barred k p (result_of p turn.0) ≡ true = ap (evades a barred k p) turn.2 ∙ good in
      let found = find-some (λ steps. evades a barred k p (result_of p steps)) turn.0 turn_lists turn.1 passes in
      let is = find-is (λ steps. evades a barred k p (result_of p steps)) found.0 turn_lists found.1 in
      evaded k p found.0 (result_of p found.0) refl (first-is k p found.0 found.1) is.1)

  -- where the attacker is to move and has not won, no next position is won
  next-lost : (k : ℕ) (r q : Position) → same_color r.side a ≡ true → decided r ≡ None → wins a barred (suc k) r ≡ false → In q (next barred r) → wins a barred k q ≡ false
  next-lost k r q own undecided lost i =
      let deeper : wins a barred (suc k) r ≡ list_any (wins a barred k) (next barred r) =
      wins-deeper a barred r k undecided (some-length q (next barred r) i) ∙ ap (λ v. wins_among v (wins a barred k) (next barred r)) own in
      false_from_ne_true _ (λ won. both_ways _ lost (deeper ∙ In-any (wins a barred k) q (next barred r) i won))

  next-side : (r q : Position) → same_color r.side a ≡ true → In q (next barred r) → same_color q.side a ≡ false
  next-side r q own i = side-other a r q (results-side r q (next-results barred r q i)) own

  pub open-unwon : (k : ℕ) (r q : Position) → same_color r.side a ≡ true → wins a barred (suc k) r ≡ false → In q (open_replies barred r) → IsUnwon k q
  open-unwon k r q own lost i =
      let w = ready-wants barred r q i in
      record { side = next-side r q own w.inside; undecided = w.undecided; lost = next-lost k r q own w.goes lost w.inside }

  pub result-side : (p r : Position) → same_color p.side a ≡ false → In r (next barred p) → same_color r.side a ≡ true
  result-side p r other i = side-own a p r (results-side p r (next-results barred p r i)) other

  module _ (c : List Escape) where
    can-wait : (q : Position) → same_color q.side a ≡ false → decided q ≡ None → wins a barred 0 q ≡ false → can_wait 0 (next barred q) ≡ true
    can-wait q other undecided lost =
        not_from_false _ (false_from_ne_true _ (λ none. both_ways _ lost (wins-stuck a barred q 0 undecided (is_nil-true (next barred q) none) ∙ ap not other)))

    safe-open : (j : ℕ) (q : Position) → same_color q.side a ≡ false → decided q ≡ None → wins a barred j q ≡ false → (1 ≤ j → has_escape c q j ≡ true) → safe_for a barred c j q None ≡ true
    safe-open zero q other undecided lost has = or_left _ _ (can-wait q other undecided lost)
    safe-open (suc j) q other undecided lost has = or_right (can_wait (suc j) (next barred q)) _ (has (omega arith))

    safe-from : (j : ℕ) (q : Position) → same_color q.side a ≡ false → wins a barred j q ≡ false → (decided q ≡ None → 1 ≤ j → has_escape c q j ≡ true) → is_safe a barred c j q ≡ true
    safe-from j q other lost has =
        elim (decided q) as (λ o. decided q ≡ o → safe_for a barred c j q o ≡ true) [
          | Some e ↦ λ is. not_from_false _ (sym (wins-decided a barred q j e is) ∙ lost)
          | None ↦ λ undecided. safe-open j q other undecided lost (has undecided)
        ] refl

    open-held : (k : ℕ) (r : Position) → same_color r.side a ≡ true → decided r ≡ None → wins a barred k r ≡ false → ((j : ℕ) → k ≡ suc j → 1 ≤ j → (q : Position) → In q (open_replies barred r) → has_escape c q j ≡ true) → are_safe a barred c k (next barred r) ≡ true
    open-held zero r own undecided lost has = refl
    open-held (suc j) r own undecided lost has =
        In-all (is_safe a barred c j) (next barred r)
        (λ q i. safe-from j q (next-side r q own i) (next-lost j r q own undecided lost i) (λ goes some. has j refl some q (wants-ready barred r q undecided i goes)))

    held-from : (k : ℕ) (r : Position) → same_color r.side a ≡ true → wins a barred k r ≡ false → ((j : ℕ) → k ≡ suc j → 1 ≤ j → (q : Position) → In q (open_replies barred r) → has_escape c q j ≡ true) → is_held a barred c k r ≡ true
    held-from k r own lost has =
        elim (decided r) as (λ o. decided r ≡ o → held_for a barred c k r o ≡ true) [
          | Some e ↦ λ is. not_from_false _ (sym (wins-decided a barred r k e is) ∙ lost)
          | None ↦ λ undecided. open-held k r own undecided lost has
        ] refl

    -- ---- escapes

    good-one : (k : ℕ) (earlier : List Escape) (p : Position) → suc k ≤ 20 → IsUnwon (suc k) p → stands_in (map (λ x. x.position) earlier) p ≡ false
        → ((j : ℕ) → k ≡ suc j → 1 ≤ j → (q : Position) → In q (after_escape a barred k p) → has_escape c q j ≡ true) → IsGoodEscape a barred c earlier (escape_at a barred k p)
    good-one k earlier p small h once has =
        let e = evasion k p h in
        let plan : Planned = record { position = p; rank = suc k; steps = first_evasion a barred k p } in
        let turn : result_of p (first_evasion a barred k p) ≡ Some e.0 = e.1.turn in
        record {
          side = λ own. both_ways _ h.side ((same_color-Decides p.side a).1 own);
          deep = omega arith;
          small = small;
          once = once;
          undecided = h.undecided;
          marked = marks-same plan;
          result = e.0;
          turn = ap (λ (x : Planned). result_of x.position x.steps) (plan-same plan) ∙ turn;
          allowed = In-stands (next barred p) e.0 e.1.inside;
          held = let less : k ≡ suc k - 1 = omega arith in subst (λ (m : ℕ). is_held a barred c m e.0 ≡ true) less (held-from k e.0 (result-side p e.0 h.side e.1.inside) e.1.lost (λ j is some q i. has j is some q (subst (λ (o : Option Position). In q (open_after barred o)) (sym turn) i)));
        }

    good-append : (earlier xs ys : List Escape) → AreGoodEscapes a barred c earlier xs → AreGoodEscapes a barred c (earlier ++ xs) ys → AreGoodEscapes a barred c earlier (xs ++ ys)
    good-append earlier [] ys g h = subst (λ (l : List Escape). AreGoodEscapes a barred c l ys) (append-nil earlier) h
    good-append earlier (x ∷ xs) ys g h =
        (g.0, good-append (earlier ++ x ∷ []) xs ys g.1 (subst (λ (l : List Escape). AreGoodEscapes a barred c l ys) (sym (append_assoc earlier (x ∷ []) xs)) h))

    good-level : (k : ℕ) (earlier : List Escape) (met new : List Position) → suc k ≤ 20 → map (λ x. x.position) earlier ≡ met → AllFresh met new → ((q : Position) → In q new → IsUnwon (suc k) q)
        → ((p : Position) → In p new → (j : ℕ) → k ≡ suc j → 1 ≤ j → (q : Position) → In q (after_escape a barred k p) → has_escape c q j ≡ true)
        → AreGoodEscapes a barred c earlier (map (escape_at a barred k) new)
    good-level k earlier met [] small is all unwon has = tt
    good-level k earlier met (p ∷ new) small is all unwon has =
        let once : stands_in (map (λ x. x.position) earlier) p ≡ false = ap (λ l. stands_in l p) is ∙ all.0 in (
          good-one k earlier p small (unwon p (inl refl)) once (has p (inl refl)),
          good-level k (earlier ++ escape_at a barred k p ∷ []) (met ++ p ∷ []) new small (positions-more earlier (escape_at a barred k p) ∙ ap (λ l. l ++ p ∷ []) is) all.1
              (λ q i. unwon q (inr i)) (λ q i. has q (inr i)),
        )
      where
        positions-more : (es : List Escape) (e : Escape) → map (λ x. x.position) (es ++ e ∷ []) ≡ map (λ x. x.position) es ++ e.position ∷ []
        positions-more [] e = refl
        positions-more (x ∷ es) e = ap (λ l. x.position ∷ l) (positions-more es e)

    -- an escape of q that is deep enough stands in the list
    escape-has : (es : List Escape) (e : Escape) (q : Position) (j : ℕ) → In e es → e.position ≡ q → j ≤ e.depth → has_escape es q j ≡ true
    escape-has es e q j i there deep = In-any (is_escape_of q j) e es i (and_from _ _ (same_position-same e.position q there) (le-leb j e.depth deep))

  map-In : {X Y : Type 0} (f : X → Y) (x : X) (xs : List X) → In x xs → In (f x) (map f xs)
  map-In f x [] i = absurd i
  map-In f x (y ∷ xs) (inl e) = inl (ap f e)
  map-In f x (y ∷ xs) (inr i) = inr (map-In f x xs i)

  has-position : (es : List Escape) (q : Position) → In q (map (λ x. x.position) es) → (e : Escape) × In e es × (e.position ≡ q)
  has-position [] q i = absurd i
  has-position (e ∷ es) q (inl same) = (e, inl refl, sym same)
  has-position (e ∷ es) q (inr i) = let deep = has-position es q i in (deep.0, inr deep.1, deep.2)

  positions-level : (k : ℕ) (prior : List Escape) (new : List Position) → map (λ x. x.position) (prior ++ map (escape_at a barred k) new) ≡ map (λ x. x.position) prior ++ new
  positions-level k [] [] = refl
  positions-level k [] (q ∷ new) = ap (λ l. q ∷ l) (positions-level k [] new)
  positions-level k (e ∷ prior) new = ap (λ l. e.position ∷ l) (positions-level k prior new)

  deep-level : (k : ℕ) (new : List Position) (e : Escape) → In e (map (escape_at a barred k) new) → e.depth ≡ suc k
  deep-level k [] e i = absurd i
  deep-level k (q ∷ new) e (inl same) = ap (λ (x : Escape). x.depth) same
  deep-level k (q ∷ new) e (inr i) = deep-level k new e i

  first-level : (k : ℕ) (met new : List Position) (q : Position) → In q new → In (escape_at a barred k q) (escapes_from a barred (suc k) met new)
  first-level zero met new q i = map-In (escape_at a barred 0) q new i
  first-level (suc d) met new q i = In-left (escape_at a barred (suc d) q) (map (escape_at a barred (suc d)) new) _ (map-In (escape_at a barred (suc d)) q new i)

  -- a position among those that were met, or among the new ones, has an escape that is deep enough
  met-has : (d : ℕ) (c prior : List Escape) (met new : List Position) → c ≡ prior ++ escapes_from a barred d met new → map (λ x. x.position) prior ≡ met → ((e : Escape) → In e prior → d ≤ e.depth)
      → (q : Position) → 1 ≤ d → In q met ⊎ In q new → has_escape c q d ≡ true
  met-has zero c prior met new whole is deep q some i = absurd (omega arith)
  met-has (suc k) c prior met new whole is deep q some (inl i) =
      let found = has-position prior q (subst (λ (l : List Position). In q l) (sym is) i) in
      let there : In found.0 c = subst (λ (l : List Escape). In found.0 l) (sym whole) (In-left found.0 prior (escapes_from a barred (suc k) met new) found.1) in
      escape-has c c found.0 q (suc k) there found.2 (deep found.0 found.1)
  met-has (suc k) c prior met new whole is deep q some (inr i) =
      let there : In (escape_at a barred k q) c = subst (λ (l : List Escape). In (escape_at a barred k q) l) (sym whole) (In-right (escape_at a barred k q) prior (escapes_from a barred (suc k) met new) (first-level k met new q i)) in
      escape-has c c (escape_at a barred k q) q (suc k) there refl (omega arith)

  pub after-unwon : (k : ℕ) (p q : Position) → IsUnwon (suc (suc k)) p → In q (after_escape a barred (suc k) p) → IsUnwon k q
  after-unwon k p q h i =
      let e = evasion (suc k) p h in
      open-unwon k e.0 q (result-side p e.0 h.side e.1.inside) e.1.lost (subst (λ (o : Option Position). In q (open_after barred o)) e.1.turn i)

  -- each escape from these levels on is good
  levels-good : (d : ℕ) (c prior : List Escape) (met new : List Position) → d ≤ 20 → c ≡ prior ++ escapes_from a barred d met new → map (λ x. x.position) prior ≡ met → AllFresh met new
      → ((q : Position) → In q new → IsUnwon d q) → ((e : Escape) → In e prior → d ≤ e.depth) → AreGoodEscapes a barred c prior (escapes_from a barred d met new)
  levels-good zero c prior met new small whole is all unwon deep = tt
  levels-good (suc zero) c prior met new small whole is all unwon deep =
      good-level c 0 prior met new small is all unwon (λ p i j e some q k. absurd (omega arith))
  levels-good (suc (suc d)) c prior met new small whole is all unwon deep =
      let level : List Escape = map (escape_at a barred (suc d)) new in
      let more : List Position = flat_map (after_escape a barred (suc d)) new in
      let deeper : List Position = fresh (met ++ new) more in
      let later : List Escape = escapes_from a barred d (met ++ new) deeper in
      let split : c ≡ (prior ++ level) ++ later = whole ∙ sym (append_assoc prior level later) in
      let met_is : map (λ x. x.position) (prior ++ level) ≡ met ++ new = positions-level (suc d) prior new ∙ ap (λ l. l ++ new) is in
      let deep_all : (e : Escape) → In e (prior ++ level) → d ≤ e.depth =
      λ e i. ⊎_elim (λ l. let h = deep e l in omega (arith, h)) (λ r. let h = deep-level (suc d) new e r in omega (arith, h)) (In-append e prior level i) in
      let has : (q : Position) → In q more → 1 ≤ d → has_escape c q d ≡ true =
      λ q i some. met-has d c (prior ++ level) (met ++ new) deeper split met_is deep_all q some (fresh-In q (met ++ new) more i) in
      good-append c prior level later
      (good-level c (suc d) prior met new small is all unwon
      (λ p i j e some q k.
      let same : d ≡ j = omega (arith, e) in
      subst (λ (m : ℕ). has_escape c q m ≡ true) same (has q (flat_map-In (after_escape a barred (suc d)) q p new i k) (omega (arith, same, some)))))
      (levels-good d c (prior ++ level) (met ++ new) deeper (omega (arith, small)) split met_is (fresh-all (met ++ new) more)
      (λ q i. let from = In-flat_map (after_escape a barred (suc d)) q new (In-fresh q (met ++ new) more i) in after-unwon d from.0 q (unwon from.0 from.1) from.2)
      deep_all)

  -- ---- the root

  defender-holds : (n : ℕ) (p : Position) (c : List Escape) → n ≤ 20 → same_color p.side a ≡ false → wins a barred n p ≡ false → c ≡ escapes_from a barred n [] (fresh [] (filter (λ q. is_none (decided q)) (p ∷ []))) → Holds a barred n c p
  defender-holds n p c small other lost whole =
      let first : List Position = filter (λ q. is_none (decided q)) (p ∷ []) in
      let none : (e : Escape) → In e [] → n ≤ e.depth = λ e i. absurd i in
      let unwon : (q : Position) → In q (fresh [] first) → IsUnwon n q =
      λ q i.
      let parts = In-filter (λ x. is_none (decided x)) q (p ∷ []) (In-fresh q [] first i) in
      let same : q ≡ p = ⊎_elim (λ (e : q ≡ p). e) (λ none. absurd none) parts.0 in
      record { side = ap (λ (x : Position). same_color x.side a) same ∙ other; undecided = is_none-None (decided q) parts.1; lost = ap (wins a barred n) same ∙ lost } in
      let safe : is_safe a barred c n p ≡ true =
      safe-from c n p other lost
      (λ undecided some.
      let passes : is_none (decided p) ≡ true = rw undecided refl in
      let there : In p first = filter-In (λ q. is_none (decided q)) p (p ∷ []) (inl refl) passes in
      met-has n c [] [] (fresh [] first) whole refl none p some (fresh-In p [] first there)) in
      record {
        escapes = subst (λ (l : List Escape). AreGoodEscapes a barred c [] l) (sym whole) (levels-good n c [] [] (fresh [] first) small whole refl (fresh-all [] first) unwon none);
        root = rw other safe;
      }

  attacker-holds : (k : ℕ) (p : Position) (c : List Escape) → suc k ≤ 20 → same_color p.side a ≡ true → wins a barred (suc k) p ≡ false → c ≡ escapes_from a barred k [] (fresh [] (open_replies barred p)) → Holds a barred (suc k) c p
  attacker-holds k p c small own lost whole =
      let first : List Position = open_replies barred p in
      let none : (e : Escape) → In e [] → k ≤ e.depth = λ e i. absurd i in
      let held : is_held a barred c (suc k) p ≡ true =
      held-from c (suc k) p own lost
      (λ j e some q i.
      let same : k ≡ j = omega (arith, e) in
      subst (λ (m : ℕ). has_escape c q m ≡ true) same (met-has k c [] [] (fresh [] first) whole refl none q (omega (arith, same, some)) (fresh-In q [] first i))) in
      record {
        escapes = subst (λ (l : List Escape). AreGoodEscapes a barred c [] l) (sym whole)
            (levels-good k c [] [] (fresh [] first) (omega (arith, small)) whole refl (fresh-all [] first) (λ q i. open-unwon k p q own lost (In-fresh q [] first i)) none);
        root = rw own held;
      }

  now-holds : (p : Position) (c : List Escape) → same_color p.side a ≡ true → wins a barred 0 p ≡ false → c ≡ [] → Holds a barred 0 c p
  now-holds p c own lost none =
      let held : is_held a barred c 0 p ≡ true = held-from c 0 p own lost (λ j e some q i. absurd (omega arith)) in
      record { escapes = subst (λ (l : List Escape). AreGoodEscapes a barred c [] l) (sym none) tt; root = rw own held }

  escapes-defender : (n : ℕ) (p : Position) → same_color p.side a ≡ false → escapes_of a barred n p ≡ escapes_from a barred n [] (fresh [] (filter (λ q. is_none (decided q)) (p ∷ [])))
  unfolding escapes_of
  escapes-defender n p other = rw other refl

  escapes-attacker : (n k : ℕ) (p : Position) → same_color p.side a ≡ true → n - 1 ≡ k → escapes_of a barred n p ≡ escapes_from a barred k [] (fresh [] (open_replies barred p))
  unfolding escapes_of
  escapes-attacker n k p own less = rw (own, less) refl

  attacker-root : (n : ℕ) (p : Position) → n ≤ 20 → same_color p.side a ≡ true → wins a barred n p ≡ false → Holds a barred n (escapes_of a barred n p) p
  attacker-root zero p small own lost = let less : 0 - 1 ≡ 0 = omega arith in now-holds p (escapes_of a barred 0 p) own lost (escapes-attacker 0 0 p own less)
  attacker-root (suc k) p small own lost = let less : suc k - 1 ≡ k = omega arith in attacker-holds k p (escapes_of a barred (suc k) p) small own lost (escapes-attacker (suc k) k p own less)

  -- the escapes of a position that is not won hold it
  pub own-holds : (n : ℕ) (p : Position) → n ≤ 20 → wins a barred n p ≡ false → Holds a barred n (escapes_of a barred n p) p
  own-holds n p small lost =
      elim (same_color p.side a) as (λ v. same_color p.side a ≡ v → Holds a barred n (escapes_of a barred n p) p) [
        | true ↦ λ own. attacker-root n p small own lost
        | false ↦ λ other. defender-holds n p (escapes_of a barred n p) small other lost (escapes-defender n p other)
      ] refl
