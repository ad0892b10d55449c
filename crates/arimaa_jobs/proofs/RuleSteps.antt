-- Each step keeps the rule of the jobs.
use Rattle.std.proofs.Common.{◌≡◌, ℕ, zero, suc, ◌+◌, ◌-◌, ◌%◌, ◌^◌, ◌<◌, ◌≤◌, ◌≢◌, ◌⊎◌, List, [], ◌∷◌, ◌++◌, min, length, get_or, set, sym, refl, ap, ◌∙◌, inl, inr, ⊎_elim, subst, arith, length-set, get_or-set_other, get_or-set_same}
use mathlib.Core.Option as maybe
use Rattle.std.proofs.lemmas.Bool.Decides.{nat_tests}
use mathlib.Core.Option.{some, none, some-injective, some-ne-none}
use lib.ListN.{get_elem?}
use native.Mathlib.Decide.{ℕ_discrete}
use Rattle.atomic_table.specs.Table.{State, Me, step, keeps, Allows, Splits, Joins, opening}
use Rattle.atomic_table.proofs.Lists.{at_set, at_snoc, set_else}
use Rattle.arimaa_jobs.specs.declared.view.SeatView.{SeatView}
use Rattle.arimaa_jobs.specs.Rule.{times, Stands, once_below, smallest_of, IsSeat, IsBlank, JobRule, Ruled, first_view, view_after_draw, view_after_report, view_after_split, view_of_new_seat, view_after_join, spent_view, WholeSees, IsAbove, TellsDraw, TellsReport, TellsLook}
use Rattle.arimaa_jobs.proofs.Lemmas.Counts.{total-set, total-snoc, total-member, total-alone, times-append, once-suc, once-in, once-most, once-out, ends-snoc, ends-append, spare-left, smallest-append, least-small, least-set, least-same, least-spent, least-member, least-snoc, least-alone, apart_none, once_here}

there : (l : List SeatView) (j : ℕ) (y a : SeatView) → get_elem? l j ≡ some y → get_elem? (set l j a) j ≡ some a
there [] j y a e = absurd (some-ne-none y (sym e))
there (x ∷ xs) zero y a e = refl
there (x ∷ xs) (suc j) y a e = there xs j y a e

module _ (c : ℕ) where
  seats_set : (P : SeatView → Type 0) (vs : List SeatView) (id : ℕ) (w : SeatView) → P w → ((j : ℕ) (v : SeatView) → get_elem? vs j ≡ some v → P v) → (j : ℕ) (v : SeatView) → get_elem? (set vs id w) j ≡ some v → P v
  seats_set P vs id w mine old j v e = ⊎_elim (λ (t : (j ≡ id) × (w ≡ v)). subst P t.1 mine) (λ (t : (j ≢ id) × (get_elem? vs j ≡ some v)). old j v t.1) (at_set vs id j w v e)

  pub draws : (n l : ℕ) (vs : List SeatView) (id : ℕ) (v : SeatView) → JobRule c n l vs → get_elem? vs id ≡ some v → 1 ≤ v.weight → 1 ≤ v.spare → JobRule c (n + 1) l (set vs id (view_after_draw v n))
  draws n l vs id v d at heavy some_spare = let w : SeatView = view_after_draw v n in let me = d.seats id v at heavy in let jobs : v.count ≡ c = me.jobs in let left = spare-left n v.count v.spare in record {
    each_once = λ x. let t = total-set (λ u. times x u.drawn) vs id v w at in let old = d.each_once x in let a = times-append x v.drawn (n ∷ []) in let o = once-suc x n in omega arith;
    least_is = d.least_is ∙ sym (least-same c vs id v w at refl);
    seats = seats_set (λ u. 1 ≤ u.weight → IsSeat c l u) vs id w (λ _. record {
      jobs = jobs;
      reported = λ x s. let r = me.reported x s in (r.0, let m = r.1 in let a = times-append x v.drawn (n ∷ []) in omega arith);
      dry = λ z. ⊎_elim (λ (k : (n < v.count) × (w.spare ≡ v.spare)). let e = k.1 in absurd (omega arith)) (λ (k : (v.count ≤ n) × (w.spare ≡ v.spare - 1)). let m = k.0 in ends-snoc c v.drawn n (omega arith)) left;
      saw = me.saw;
    }) d.seats;
    blank = seats_set (λ u. u.weight ≡ 0 → IsBlank u) vs id w (λ z. absurd (omega arith)) d.blank;
    spares = let t = total-set (λ u. u.spare) vs id v w at in let old = d.spares in let m = total-member (λ u. u.spare) vs id v at in
        ⊎_elim (λ (k : (n < v.count) × (w.spare ≡ v.spare)). let e = k.1 in let f = k.0 in omega arith) (λ (k : (v.count ≤ n) × (w.spare ≡ v.spare - 1)). let e = k.1 in let f = k.0 in omega arith) left;
    weights = let t = total-set (λ u. u.weight) vs id v w at in let old = d.weights in omega arith;
  }

  -- a number that any seat drew is below the next one
  pub above : (n l : ℕ) (vs : List SeatView) (id : ℕ) (v : SeatView) → JobRule c n l vs → get_elem? vs id ≡ some v → IsAbove n v.drawn
  above n l vs id v d at x s = let m = total-member (λ u. times x u.drawn) vs id v at in let o = d.each_once x in once-out x n (omega arith)

  pub reports : (n l : ℕ) (vs : List SeatView) (id : ℕ) (v : SeatView) (job : ℕ) → JobRule c n l vs → get_elem? vs id ≡ some v → 1 ≤ v.weight → job < c → Stands job v.drawn
      → JobRule c n (min l job) (set vs id (view_after_report v job (min l job)))
  reports n l vs id v job d at heavy small drawn = let w : SeatView = view_after_report v job (min l job) in let me = d.seats id v at heavy in let jobs : v.count ≡ c = me.jobs in record {
    each_once = λ x. let t = total-set (λ u. times x u.drawn) vs id v w at in let old = d.each_once x in omega arith;
    least_is = let a = smallest-append c v.reported (job ∷ []) in let b = least-member c vs id v at in let old = d.least_is in let t = least-set c vs id v w job at (let k = least-small c (v ∷ []) in omega arith) in omega arith;
    seats = λ j u e h. ⊎_elim
        (λ (t : (j ≡ id) × (w ≡ u)). subst (IsSeat c (min l job)) t.1 record {
          jobs = jobs;
          reported = λ x s. let a = times-append x v.reported (job ∷ []) in ⊎_elim (λ (e : x ≡ job). (subst (λ y. y < c) (sym e) small, subst (λ y. Stands y v.drawn) (sym e) drawn)) (λ (r : Stands x v.reported). me.reported x r) (which x s);
          dry = me.dry;
          saw = omega arith;
        })
        (λ (t : (j ≢ id) × (get_elem? vs j ≡ some u)). let o = d.seats j u t.1 h in record { jobs = o.jobs; reported = o.reported; dry = o.dry; saw = let q = o.saw in omega arith }) (at_set vs id j w u e);
    blank = seats_set (λ u. u.weight ≡ 0 → IsBlank u) vs id w (λ z. absurd (omega arith)) d.blank;
    spares = let t = total-set (λ u. u.spare) vs id v w at in let old = d.spares in omega arith;
    weights = let t = total-set (λ u. u.weight) vs id v w at in let old = d.weights in omega arith;
  }
    where
      which : (x : ℕ) → Stands x (v.reported ++ job ∷ []) → (x ≡ job) ⊎ Stands x v.reported
      which x s = let a = times-append x v.reported (job ∷ []) in pick x (ℕ_discrete x job) a s
        where
          pick : (y : ℕ) → Dec (y ≡ job) → times y (v.reported ++ job ∷ []) ≡ times y v.reported + times y (job ∷ []) → Stands y (v.reported ++ job ∷ []) → (y ≡ job) ⊎ Stands y v.reported
          pick y (yes e) a s = inl e
          pick y (no m) a s = inr (let z = apart_none y job m in omega arith)

  pub sees : (n l : ℕ) (vs : List SeatView) (id : ℕ) (v : SeatView) → JobRule c n l vs → get_elem? vs id ≡ some v → 1 ≤ v.weight → JobRule c n l (set vs id (record v { saw = l }))
  sees n l vs id v d at heavy = let w : SeatView = record v { saw = l } in let me = d.seats id v at heavy in record {
    each_once = λ x. let t = total-set (λ u. times x u.drawn) vs id v w at in let old = d.each_once x in omega arith;
    least_is = d.least_is ∙ sym (least-same c vs id v w at refl);
    seats = seats_set (λ u. 1 ≤ u.weight → IsSeat c l u) vs id w (λ _. record { jobs = me.jobs; reported = me.reported; dry = me.dry; saw = omega arith }) d.seats;
    blank = seats_set (λ u. u.weight ≡ 0 → IsBlank u) vs id w (λ z. absurd (omega arith)) d.blank;
    spares = let t = total-set (λ u. u.spare) vs id v w at in let old = d.spares in omega arith;
    weights = let t = total-set (λ u. u.weight) vs id v w at in let old = d.weights in omega arith;
  }

  some_job : (xs : List ℕ) → xs ≢ [] → (j : ℕ) × Stands j xs × (smallest_of c xs ≤ j)
  some_job [] h = absurd (h refl)
  some_job (x ∷ xs) h = (x, (let a = once_here x in omega arith), omega arith)

  pub whole : (n l : ℕ) (vs : List SeatView) (id : ℕ) (v : SeatView) → JobRule c n l vs → get_elem? vs id ≡ some v → v.weight ≡ 65536 → WholeSees v l
  whole n l vs id v d at all_of = let me = d.seats id v at (omega arith) in let jobs : v.count ≡ c = me.jobs in let l_is : l ≡ smallest_of c v.reported = d.least_is ∙ least-alone c vs id v at (λ i u m e. (others i u m e).1) in record {
    least_is = l_is ∙ ap (λ (k : ℕ). smallest_of k v.reported) (sym jobs);
    once = λ x. let a = count_at x in let b = once-most x n in omega arith;
    below = λ some_one x h. let j = some_job v.reported some_one in let s = (me.reported j.0 j.1).1 in let m : j.0 < n = drawn_below j.0 s in let b = j.2 in drawn_at x (omega arith);
    all = λ k s up x h. let m : k < n = drawn_below k s in drawn_at x (omega arith);
  }
    where
      others : (i : ℕ) (u : SeatView) → i ≢ id → get_elem? vs i ≡ some u → IsBlank u
      others i u m e = let t = total-set (λ y. y.weight) vs id v spent_view at in let r = total-member (λ y. y.weight) (set vs id spent_view) i u (set_else vs id i spent_view m ∙ e) in let w = d.weights in d.blank i u e (omega arith)

      count_at : (x : ℕ) → times x v.drawn ≡ once_below x n
      count_at x = sym (total-alone (λ y. times x y.drawn) vs id v at (λ i u m e. ap (times x) (others i u m e).0)) ∙ d.each_once x

      drawn_at : (x : ℕ) → x < n → Stands x v.drawn
      drawn_at x h = let a = count_at x in let b = once-in x n h in omega arith

      drawn_below : (x : ℕ) → Stands x v.drawn → x < n
      drawn_below x s = let a = count_at x in once-out x n (omega arith)

  pub cuts : (n l : ℕ) (vs : List SeatView) (id : ℕ) (v : SeatView) → JobRule c n l vs → get_elem? vs id ≡ some v → 2 ≤ v.weight → 2 ≤ v.spare → JobRule c n l (set vs id (view_after_split v) ++ view_of_new_seat v ∷ [])
  cuts n l vs id v d at heavy spare = let w : SeatView = view_after_split v in let u : SeatView = view_of_new_seat v in let vs' : List SeatView = set vs id w in let me = d.seats id v at (omega arith) in record {
    each_once = λ x. let t = total-set (λ y. times x y.drawn) vs id v w at in let s = total-snoc (λ y. times x y.drawn) vs' u in let old = d.each_once x in omega arith;
    least_is = d.least_is ∙ (sym (least-same c vs id v w at refl) ∙ sym (least-snoc c vs' u refl));
    seats = seats_snoc (λ y. 1 ≤ y.weight → IsSeat c l y) vs' u (λ _. record { jobs = me.jobs; reported = λ x s. absurd (omega arith); dry = λ z. absurd (omega arith); saw = me.saw })
        (seats_set (λ y. 1 ≤ y.weight → IsSeat c l y) vs id w (λ _. record { jobs = me.jobs; reported = me.reported; dry = λ z. absurd (omega arith); saw = me.saw }) d.seats);
    blank = seats_snoc (λ y. y.weight ≡ 0 → IsBlank y) vs' u (λ z. absurd (omega arith)) (seats_set (λ y. y.weight ≡ 0 → IsBlank y) vs id w (λ z. absurd (omega arith)) d.blank);
    spares = let t = total-set (λ y. y.spare) vs id v w at in let s = total-snoc (λ y. y.spare) vs' u in let old = d.spares in omega arith;
    weights = let t = total-set (λ y. y.weight) vs id v w at in let s = total-snoc (λ y. y.weight) vs' u in let old = d.weights in omega arith;
  }
    where
      seats_snoc : (P : SeatView → Type 0) (ys : List SeatView) (y : SeatView) → P y → ((j : ℕ) (z : SeatView) → get_elem? ys j ≡ some z → P z) → (j : ℕ) (z : SeatView) → get_elem? (ys ++ y ∷ []) j ≡ some z → P z
      seats_snoc P ys y mine old j z e = ⊎_elim (λ (t : get_elem? ys j ≡ some z). old j z t) (λ (t : y ≡ z). subst P t mine) (at_snoc ys y z j e)

  pub merges : (n l : ℕ) (vs : List SeatView) (id other : ℕ) (v w : SeatView) → JobRule c n l vs → get_elem? vs id ≡ some v → ¬ (other ≡ id) → get_elem? (set vs id (view_after_join v w)) other ≡ some w → 1 ≤ v.weight → 1 ≤ w.weight
      → JobRule c n l (set (set vs id (view_after_join v w)) other spent_view)
  merges n l vs id other v w d at apart at' heavy heavy' = let b : SeatView = view_after_join v w in let vs' : List SeatView = set vs id b in let vs'' : List SeatView = set vs' other spent_view in
      let at_w : get_elem? vs other ≡ some w = sym (set_else vs id other b apart) ∙ at' in let me = d.seats id v at heavy in let they = d.seats other w at_w heavy' in
      let few : v.spare + w.spare ≤ 65536 = (let t = total-set (λ y. y.spare) vs id v spent_view at in let r = total-member (λ y. y.spare) (set vs id spent_view) other w (set_else vs id other spent_view apart ∙ at_w) in let s = d.spares in omega arith) in record {
        each_once = λ x. let t = total-set (λ y. times x y.drawn) vs id v b at in let u = total-set (λ y. times x y.drawn) vs' other w spent_view at' in let a = times-append x v.drawn w.drawn in let old = d.each_once x in omega arith;
        least_is = let a = smallest-append c v.reported w.reported in let t = least-set c vs id v b (smallest_of c w.reported) at (omega arith) in let m = least-member c vs other w at_w in
            let u = least-spent c vs' other w at' in let r = least-member c vs'' id b (set_else vs' other id spent_view (λ e. apart (sym e)) ∙ there vs id v b at) in let old = d.least_is in omega arith;
        seats = seats_set (λ y. 1 ≤ y.weight → IsSeat c l y) vs' other spent_view (λ h. absurd (omega arith)) (seats_set (λ y. 1 ≤ y.weight → IsSeat c l y) vs id b (λ _. record {
          jobs = me.jobs;
          reported = λ x s. let a = times-append x v.reported w.reported in let e = times-append x v.drawn w.drawn in either_list x (times x v.reported) (times x w.reported) (omega arith)
              (λ p. let r = me.reported x p in (r.0, let q = r.1 in omega arith)) (λ p. let r = they.reported x p in (r.0, let q = r.1 in omega arith));
          dry = λ z. ends-append c v.drawn w.drawn (they.dry (omega arith));
          saw = let p = me.saw in let q = they.saw in omega arith;
        }) d.seats);
        blank = seats_set (λ y. y.weight ≡ 0 → IsBlank y) vs' other spent_view (λ _. (refl, refl, refl)) (seats_set (λ y. y.weight ≡ 0 → IsBlank y) vs id b (λ z. absurd (omega arith)) d.blank);
        spares = let t = total-set (λ y. y.spare) vs id v b at in let u = total-set (λ y. y.spare) vs' other w spent_view at' in let old = d.spares in omega arith;
        weights = let t = total-set (λ y. y.weight) vs id v b at in let u = total-set (λ y. y.weight) vs' other w spent_view at' in let old = d.weights in omega arith;
      }
    where
      either_list : (x p q : ℕ) → 0 < p + q → (0 < p → (x < c) × Stands x (v.drawn ++ w.drawn)) → (0 < q → (x < c) × Stands x (v.drawn ++ w.drawn)) → (x < c) × Stands x (v.drawn ++ w.drawn)
      either_list x zero q h f g = g (omega arith)
      either_list x (suc p) q h f g = f (omega arith)

  pub begins : JobRule c 0 c (first_view c ∷ [])
  begins = record {
    each_once = λ x. grind (arith, nat_tests);
    least_is = omega arith;
    seats = λ j v e _. subst (IsSeat c c) (only j v e) record { jobs = refl; reported = λ x s. absurd (omega arith); dry = λ z. absurd (omega arith); saw = omega arith };
    blank = λ j v e z. absurd (let t = ap (λ (y : SeatView). y.weight) (only j v e) in omega arith);
    spares = omega arith;
    weights = refl;
  }
    where
      only : (j : ℕ) (v : SeatView) → get_elem? (first_view c ∷ []) j ≡ some v → first_view c ≡ v
      only zero v e = some-injective (first_view c) v e
      only (suc j) v e = absurd (some-ne-none v (sym e))

module _ (S : Type 0) (c : ℕ) where
  abbrev St : Type 0
  St = State S SeatView

  -- one seat's view and perhaps one word change
  ruled_of : (s : St) (r : Ruled c s) (ws : List ℕ) (homes : List (maybe.Option S)) (vs : List SeatView) → length ws ≡ 2 → JobRule c (get_or ws 0 0) (get_or ws 1 0) vs → Ruled c record { words = ws; homes = homes; views = vs }
  ruled_of s r ws homes vs two dealt = record { two = two; dealt = dealt }

  at_words : (n l n' l' : ℕ) (vs : List SeatView) → n ≡ n' → l ≡ l' → JobRule c n l vs → JobRule c n' l' vs
  at_words n l n' l' vs a b d = subst (λ (z : ℕ × ℕ). JobRule c z.0 z.1 vs) (λ i. (a i, b i)) d

  pub claims : (slots id : ℕ) (me : Me S SeatView) → c < 2 ^ 32 → 1 ≤ me.0.weight → 1 ≤ me.0.spare → Allows (Ruled c) slots id me 0 (λ n. (n + 1) % 2 ^ 64) (TellsDraw (step slots 0 1 0 none) me)
  claims slots id me small heavy spare s r wide at limit = let n : ℕ = get_or s.words 0 0 in let two = r.two in let d = r.dealt in let old = d.spares in let m = total-member (λ u. u.spare) s.views id me.0 at in
      let is : (n + 1) % 2 ^ 64 ≡ n + 1 = fits n (omega arith) in (
        view_after_draw me.0 n,
        keeps,
        tt,
        ruled_of s r (set s.words 0 ((n + 1) % 2 ^ 64)) s.homes (set s.views id (view_after_draw me.0 n)) (length-set s.words 0 _ ∙ two)
            (at_words _ _ _ _ _ (sym is ∙ sym (get_or-set_same s.words 0 ((n + 1) % 2 ^ 64) 0 (omega arith))) (sym (get_or-set_other s.words 0 1 ((n + 1) % 2 ^ 64) 0 (λ e. omega arith))) (draws c n _ s.views id me.0 d at heavy spare)),
        (refl, above c n _ s.views id me.0 d at),
      )
    where
      fits : (n : ℕ) → n ≤ 4295032832 → (n + 1) % 2 ^ 64 ≡ n + 1
      fits n h = omega arith

  pub lowers : (slots id job : ℕ) (me : Me S SeatView) → 1 ≤ me.0.weight → job < c → Stands job me.0.drawn → Allows (Ruled c) slots id me 1 (λ n. min n job) (TellsReport (step slots 1 job 0 none) me)
  lowers slots id job me heavy small drawn s r wide at limit = let l : ℕ = get_or s.words 1 0 in let two = r.two in let below = (r.dealt.seats id me.0 at heavy).saw in (
    view_after_report me.0 job (min l job),
    keeps,
    tt,
    ruled_of s r (set s.words 1 (min l job)) s.homes (set s.views id (view_after_report me.0 job (min l job))) (length-set s.words 1 _ ∙ two)
        (at_words _ _ _ _ _ (sym (get_or-set_other s.words 1 0 (min l job) 0 (λ e. omega arith))) (sym (get_or-set_same s.words 1 (min l job) 0 (omega arith))) (reports c _ l s.views id me.0 job r.dealt at heavy small drawn)),
    (refl, below),
  )

  pub looks : (slots id : ℕ) (me : Me S SeatView) → 1 ≤ me.0.weight → me.0.count ≡ c → Allows (Ruled c) slots id me 1 (λ n. n) (TellsLook (step slots 1 0 0 none) me)
  looks slots id me heavy jobs s r wide at limit = let l : ℕ = get_or s.words 1 0 in let two = r.two in let d = r.dealt in let a = least-small c s.views in let b = d.least_is in (
    record (me.0) { saw = l },
    keeps,
    tt,
    ruled_of s r (set s.words 1 l) s.homes (set s.views id (record (me.0) { saw = l })) (length-set s.words 1 l ∙ two)
        (at_words _ _ _ _ _ (sym (get_or-set_other s.words 1 0 l 0 (λ e. omega arith))) (sym (get_or-set_same s.words 1 l 0 (omega arith))) (sees c _ l s.views id me.0 d at heavy)),
    (refl, (omega arith), (d.seats id me.0 at heavy).saw, whole c _ l s.views id me.0 d at),
  )

  pub splits : (id : ℕ) (v : SeatView) → 2 ≤ v.weight → 2 ≤ v.spare → Splits {S = S} (Ruled c) id v (view_after_split v) (view_of_new_seat v)
  splits id v heavy spare s r at = record { two = r.two; dealt = cuts c _ _ s.views id v r.dealt at heavy spare }

  pub joins : (id other : ℕ) (v w : SeatView) → 1 ≤ v.weight → 1 ≤ w.weight → Joins {S = S} (Ruled c) id v other w (view_after_join v w) spent_view
  joins id other v w heavy heavy' s r at apart at' = record { two = r.two; dealt = merges c _ _ s.views id other v w r.dealt at apart at' heavy heavy' }

  pub starts : Ruled {S = S} c (opening (0 ∷ c ∷ []) [] (first_view c))
  starts = record { two = refl; dealt = begins c }
