-- An entry has no fault just where it is good and its marks are right.
use Rattle.std.proofs.Common.{◌≡◌, ℕ, suc, List, [], ◌∷◌, ◌++◌, map, Option, None, Some, Bool, true, false, cond, ◌&&◌, is_some, refl, sym, ◌∙◌, ap, subst, true≢false, eq-eqb, eqb-true}
use Rattle.std.specs.Prelude.{◌==◌}
use Rattle.std.specs.List.{list_all}
use Rattle.std.proofs.lemmas.Bool.{and_from, and_parts}
use Rattle.std.proofs.lemmas.List.{map-append}
use Rattle.arimaa_board.specs.declared.piece.Color.{Color}
use Rattle.arimaa_board.specs.Board.{same_color}
use Rattle.arimaa_board.specs.declared.position.Position.{Position}
use Rattle.arimaa_board.specs.declared.ending.Ending.{Ending}
use Rattle.arimaa_model.specs.DecidedPositions.{decided}
use Rattle.arimaa_model.specs.Results.{stands_in, next}
use Rattle.arimaa_model.specs.Ranks.{above}
use Rattle.arimaa_model.specs.Strategies.{Planned, result_at, find_entry}
use Rattle.arimaa_model.proofs.Lemmas.Lists.{is_some-None}
use Rattle.arimaa_forced.specs.declared.entry.Entry.{Entry}
use Rattle.arimaa_forced.specs.Acceptance.{is_win_of, s_rank, is_covered, answered_for, IsGood, AreGood}
use Rattle.arimaa_forced.specs.Entries.{planned_of, has_right_marks}
use Rattle.arimaa_strategy.specs.declared.check_answer.Why.{Why}
use Rattle.arimaa_strategy.specs.declared.check_answer.Why.TheVariants as why
use Rattle.arimaa_strategy.specs.Entries.{plan_of}
use Rattle.arimaa_strategy.specs.Faults.{among_next, led_to, rank_fault, fault_by, fault_after, fault_of, AreFaultless}

-- a test that ends in no fault
no_fault : (t : Bool) (w : Why) (o : Option Why) → cond t (Some w) o ≡ None → (t ≡ false) × (o ≡ None)
no_fault true w o e = let wrong : true ≡ false = cc in absurd (true≢false wrong)
no_fault false w o e = (refl, e)

no_fault_else : (t : Bool) (o : Option Why) (w : Why) → cond t o (Some w) ≡ None → (t ≡ true) × (o ≡ None)
no_fault_else true o w e = (refl, e)
no_fault_else false o w e = let wrong : true ≡ false = cc in absurd (true≢false wrong)

fault_free : (t : Bool) (w : Why) (o : Option Why) → t ≡ false → o ≡ None → cond t (Some w) o ≡ None
fault_free t w o fails rest = rw fails rest

not_both : {X : Type 0} (x : X) → ◌≡◌ {A = Option X} None (Some x) → ⊥
not_both x e = let wrong : true ≡ false = cc in true≢false wrong

rank_exact : (rank q : ℕ) → rank_fault rank q ≡ None → rank ≡ suc q
rank_exact rank q h = eqb-true rank (suc q) (elim (rank == suc q) as (λ v. cond v None (Some why.Rank) ≡ None → v ≡ true) [ true ↦ λ _. refl | false ↦ λ e. absurd (not_both why.Rank (sym e)) ] h)

exact_rank : (rank q : ℕ) → rank ≡ suc q → rank_fault rank q ≡ None
exact_rank rank q h = rw (eq-eqb rank (suc q) h) refl

module _ (a : Color) (barred : List Position) (s : List Planned) where
  by_good : (rank : ℕ) (r : Position) (o : Option Ending) → fault_by a barred s rank r o ≡ None → (answered_for a barred s r o ≡ true) × (rank ≡ suc (cond (is_win_of a o) 0 (above (map (s_rank a s) (next barred r)))))
  by_good rank r (Some e) h =
      elim (same_color e.winner a) as (λ v. cond v (rank_fault rank 0) (Some why.Lost) ≡ None → (v ≡ true) × (rank ≡ suc (cond v 0 (above (map (s_rank a s) (next barred r)))))) [
        | true ↦ λ k. (refl, rank_exact rank 0 k)
        | false ↦ λ k. absurd (not_both why.Lost (sym k))
      ] h
  by_good rank r None h =
      let parts = no_fault_else (list_all (is_covered a s) (next barred r)) (rank_fault rank (above (map (s_rank a s) (next barred r)))) why.Reply h in
      (parts.0, rank_exact rank _ parts.1)

  good_by : (rank : ℕ) (r : Position) (o : Option Ending) → answered_for a barred s r o ≡ true → rank ≡ suc (cond (is_win_of a o) 0 (above (map (s_rank a s) (next barred r)))) → fault_by a barred s rank r o ≡ None
  good_by rank r (Some e) answered exact =
      elim (same_color e.winner a) as (λ v. v ≡ true → rank ≡ suc (cond v 0 (above (map (s_rank a s) (next barred r)))) → cond v (rank_fault rank 0) (Some why.Lost) ≡ None) [
        | true ↦ λ _ k. exact_rank rank 0 k
        | false ↦ λ wrong k. absurd (true≢false (sym wrong))
      ] answered exact
  good_by rank r None answered exact = rw answered (exact_rank rank _ exact)

-- where an entry leads, its turn leads, with the right marks, to a next position
pub record Leads (barred : List Position) (e : Entry) (r : Position) : Type 0 where
  pub marked : has_right_marks e ≡ true
  pub turn : result_at (planned_of e) ≡ Some r
  pub allowed : stands_in (next barred e.position) r ≡ true

among_some : (barred : List Position) (p r : Position) (o : Option Position) → among_next barred p o ≡ Some r → (o ≡ Some r) × (stands_in (next barred p) r ≡ true)
among_some barred p r None h = absurd (not_both r h)
among_some barred p r (Some q) h =
    elim (stands_in (next barred p) q) as (λ v. stands_in (next barred p) q ≡ v → cond v (Some q) None ≡ Some r → (Some q ≡ Some r) × (stands_in (next barred p) r ≡ true)) [
      | true ↦ λ stands k. let same : q ≡ r = cc in (k, ap (stands_in (next barred p)) (sym same) ∙ stands)
      | false ↦ λ _ k. absurd (not_both r k)
    ] refl h

pub leads : (barred : List Position) (e : Entry) (r : Position) → led_to barred e ≡ Some r → Leads barred e r
leads barred e r h =
    elim (has_right_marks e) as (λ v. has_right_marks e ≡ v → cond v (among_next barred e.position (result_at (planned_of e))) None ≡ Some r → Leads barred e r) [
      | true ↦ λ marked k. let parts = among_some barred e.position r (result_at (planned_of e)) k in record { marked = marked; turn = parts.0; allowed = parts.1 }
      | false ↦ λ _ k. absurd (not_both r k)
    ] refl h

pub led : (barred : List Position) (e : Entry) (r : Position) → Leads barred e r → led_to barred e ≡ Some r
led barred e r h = rw h.marked (ap (among_next barred e.position) h.turn ∙ rw h.allowed refl)

module _ (a : Color) (barred : List Position) (s : List Entry) where
  abbrev Good : List Entry → Entry → Type 0
  Good earlier e = IsGood a barred (plan_of s) (plan_of earlier) (planned_of e) × (has_right_marks e ≡ true)

  good_after : (earlier : List Entry) (e : Entry) (o : Option Position) → led_to barred e ≡ o → find_entry (plan_of earlier) e.position ≡ None → decided e.position ≡ None
      → fault_after a barred (plan_of s) e.rank o ≡ None → Good earlier e
  good_after earlier e None is once undecided h = absurd (not_both why.Turn (sym h))
  good_after earlier e (Some r) is once undecided h =
      let way = leads barred e r is in
      let parts = by_good a barred (plan_of s) e.rank r (decided r) h in (
        record { once = once; undecided = undecided; result = r; turn = way.turn; allowed = way.allowed; answered = parts.0; exact = parts.1 },
        way.marked,
      )

  pub faultless_good : (earlier : List Entry) (e : Entry) → fault_of a barred s earlier e ≡ None → Good earlier e
  unfolding fault_of
  faultless_good earlier e h =
      let p1 = no_fault (is_some (find_entry (plan_of earlier) e.position)) why.Twice _ h in
      let p2 = no_fault (is_some (decided e.position)) why.Decided _ p1.1 in
      good_after earlier e (led_to barred e) refl (is_some-None (find_entry (plan_of earlier) e.position) p1.0) (is_some-None (decided e.position) p2.0) p2.1

  good_faultless : (earlier : List Entry) (e : Entry) → Good earlier e → fault_of a barred s earlier e ≡ None
  unfolding fault_of
  good_faultless earlier e g =
      let r = g.0.result in
      let way : led_to barred e ≡ Some r = led barred e r (record { marked = g.1; turn = g.0.turn; allowed = g.0.allowed }) in
      fault_free (is_some (find_entry (plan_of earlier) e.position)) why.Twice _ (ap is_some g.0.once)
      (fault_free (is_some (decided e.position)) why.Decided _ (ap is_some g.0.undecided)
      (ap (fault_after a barred (plan_of s) e.rank) way ∙ good_by a barred (plan_of s) e.rank r (decided r) g.0.answered g.0.exact))

  -- one more earlier entry
  plan_more : (earlier : List Entry) (e : Entry) → plan_of (earlier ++ e ∷ []) ≡ plan_of earlier ++ planned_of e ∷ []
  plan_more earlier e = map-append planned_of earlier (e ∷ [])

  pub all_good : (earlier es : List Entry) → AreFaultless a barred s earlier es → AreGood a barred (plan_of s) (plan_of earlier) (plan_of es) × (list_all has_right_marks es ≡ true)
  all_good earlier [] h = (tt, refl)
  all_good earlier (e ∷ es) h =
      let here = faultless_good earlier e h.0 in
      let rest = all_good (earlier ++ e ∷ []) es h.1 in
      ((here.0, subst (λ (l : List Planned). AreGood a barred (plan_of s) l (plan_of es)) (plan_more earlier e) rest.0), and_from _ _ here.1 rest.1)

  pub all_faultless : (earlier es : List Entry) → AreGood a barred (plan_of s) (plan_of earlier) (plan_of es) → list_all has_right_marks es ≡ true → AreFaultless a barred s earlier es
  all_faultless earlier [] good marked = tt
  all_faultless earlier (e ∷ es) good marked =
      let marks = and_parts (has_right_marks e) (list_all has_right_marks es) marked in (
        good_faultless earlier e (good.0, marks.0),
        all_faultless (earlier ++ e ∷ []) es (subst (λ (l : List Planned). AreGood a barred (plan_of s) l (plan_of es)) (sym (plan_more earlier e)) good.1) marks.1,
      )
