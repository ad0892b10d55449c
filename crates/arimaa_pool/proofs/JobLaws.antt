-- What the jobs of a depth say of the root.
use Rattle.std.proofs.Common.{◌≡◌, ℕ, zero, suc, ◌+◌, ◌<◌, ◌≤◌, List, [], ◌∷◌, ◌++◌, length, get_or, Option, Some, None, Result, Bool, true, false, not, ◌&&◌, ◌||◌, ◌⊎◌, inl, inr, ⊎_elim, refl, sym, ◌∙◌, ap, subst, arith}
use Rattle.std.specs.Prelude.{IfOk, IfErr, IfSome, nat_lt, nat_le}
use Rattle.std.specs.List.{slice_get}
use Rattle.std.proofs.lemmas.Bool.{both_ways}
use Rattle.std.proofs.lemmas.Bool.Decides.{nat_tests}
use Rattle.std.proofs.lemmas.Option.{slice_get_within, slice_get-get_or}
use mathlib.Core.Bool.{beq}
use Rattle.arimaa_board.specs.declared.position.Position.{Position}
use Rattle.arimaa_board.specs.Board.{same_color}
use Rattle.arimaa_model.specs.DecidedPositions.{decided}
use Rattle.arimaa_model.specs.Members.{Stands as IsIn}
use Rattle.arimaa_model.specs.Results.{next}
use Rattle.arimaa_model.specs.Wins.{wins}
use Rattle.arimaa_model.proofs.Lemmas.Members.{In}
use Rattle.arimaa_model.proofs.Lemmas.Positions.{In-stands}
use Rattle.arimaa_forced.specs.Search.{is_decisive, looked_at}
use Rattle.arimaa_forced.proofs.Lemmas.Midst.{Midst, midst-start, midst-here, midst-more, midst-decisive, midst-end}
use Rattle.arimaa_jobs.specs.declared.view.SeatView.{SeatView}
use Rattle.arimaa_jobs.specs.Rule.{Stands, WholeSees, view_after_draw, view_after_report, view_after_join, smallest_of, ends_above}
use Rattle.arimaa_jobs.specs.Seats.{DrewNoJob, Reported, Looked}
use Rattle.arimaa_jobs.proofs.Lemmas.SeatLaws.{stands-snoc, stands-first, stands-second, stands-last, stands-either, smallest-least, smallest-count, smallest-stands, drew-all}
use Rattle.arimaa_pool.specs.declared.stop.Stop.{Stop}
use Rattle.arimaa_pool.specs.declared.stopped_job.StoppedJob.{StoppedJob}
use Rattle.arimaa_pool.specs.Depths.{depth_answer, gives_stop}
use Rattle.arimaa_pool.specs.Jobs.{Decides, HasStopBy, HasStopped, IsJob, Worked, earlier}
use Rattle.arimaa_pool.specs.Stops.{IsStop}
use Rattle.arimaa_pool.specs.Terms.{Terms}

module _ (t : Terms) (n : ℕ) (p : Position) (undecided : decided p ≡ None) where
  abbrev ends : Position → Bool
  ends = is_decisive t.attacker t.barred n p

  abbrev own : Bool
  own = same_color p.side t.attacker

  abbrev Rest : List Position → Type 0
  Rest rest = Midst t.attacker t.barred n p rest 0 0

  -- the rest after a position that is not decisive
  rest-more : (q : Position) (rest : List Position) → Rest (q ∷ rest) → ends q ≡ false → Rest rest
  rest-more q rest m goes = midst-more t.attacker t.barred n p q rest 0 0 0 m (omega arith) (omega arith) goes

  -- one of the rest is decisive
  decisive-rest : (rest : List Position) → Rest rest → (k : ℕ) (q : Position) → slice_get rest k ≡ Some q → ends q ≡ true → wins t.attacker t.barred (suc n) p ≡ own
  decisive-rest [] m k q here stops = absurd (cc)
  decisive-rest (x ∷ rest) m k q here stops = pick (λ (r : Rest rest) j there. decisive-rest rest r j q there stops) (ends x) refl k here
    where
      pick : (Rest rest → (j : ℕ) → slice_get rest j ≡ Some q → wins t.attacker t.barred (suc n) p ≡ own) → (b : Bool) → ends x ≡ b → (j : ℕ) → slice_get (x ∷ rest) j ≡ Some q → wins t.attacker t.barred (suc n) p ≡ own
      pick deep true is j there = midst-decisive t.attacker t.barred n p x rest 0 0 m undecided is
      pick deep false is zero there = let same : x ≡ q = cc in absurd (both_ways (ends q) (ap ends (sym same) ∙ is) stops)
      pick deep false is (suc j) there = deep (rest-more x rest m is) j there

  -- none of the rest is decisive
  none-rest : (rest : List Position) → Rest rest → ((k : ℕ) (q : Position) → slice_get rest k ≡ Some q → ends q ≡ false) → wins t.attacker t.barred (suc n) p ≡ not own
  none-rest [] m none = midst-end t.attacker t.barred n p 0 0 m undecided
  none-rest (x ∷ rest) m none = none-rest rest (rest-more x rest m (none 0 x refl)) (λ k q here. none (suc k) q here)

  -- none before a place is decisive, so it is looked at
  looked-rest : (rest : List Position) → Rest rest → (k : ℕ) (q : Position) → slice_get rest k ≡ Some q → ((j : ℕ) (x : Position) → j < k → slice_get rest j ≡ Some x → ends x ≡ false) → In q (looked_at t.attacker t.barred n p)
  looked-rest [] m k q here before = absurd (cc)
  looked-rest (x ∷ rest) m zero q here before = let same : x ≡ q = cc in subst (λ (y : Position). In y (looked_at t.attacker t.barred n p)) same (midst-here t.attacker t.barred n p x rest 0 0 m)
  looked-rest (x ∷ rest) m (suc k) q here before = looked-rest rest (rest-more x rest m (before 0 x (omega arith) refl)) k q here (λ j y small there. before (suc j) y (omega arith) there)

  abbrev start : Rest (next t.barred p)
  start = midst-start t.attacker t.barred n p 0

  -- the whole seat, and what it sees as the least job
  module _ (v : SeatView) (least : ℕ) (o : Option StoppedJob)
      (sees : WholeSees v least) (ended : ends_above v.count v.drawn ≡ true) (low : least ≤ v.saw)
      (count : v.count ≡ length (next t.barred p)) (worked : Worked t n p v o) where
    -- a job below the least was asked: it is not decisive, or a job up to it stopped
    asked-below : (x : ℕ) → x < least → Decides t n p x false ⊎ HasStopBy o x
    asked-below x small =
        let is : least ≡ smallest_of v.count v.reported = sees.least_is in
        let most = smallest-count v.count v.reported in
        let drawn = drew-all v least sees ended x (omega arith) in
        ⊎_elim
        (λ (r : Stands x v.reported). let s = smallest-least v.count x v.reported r in absurd (omega arith))
        (λ (other : Decides t n p x false ⊎ HasStopBy o x). other)
        (worked.asked x (omega arith) drawn (omega arith))

    -- the least is a decisive job, where it is a job
    found : least < v.count → wins t.attacker t.barred (suc n) p ≡ own
    found small =
        let is : least ≡ smallest_of v.count v.reported = sees.least_is in
        let there = smallest-stands v.count v.reported (omega arith) in
        let decides = worked.decisive (smallest_of v.count v.reported) there in
        let inside : smallest_of v.count v.reported < length (next t.barred p) = omega arith in
        let here = slice_get-get_or (next t.barred p) (smallest_of v.count v.reported) p inside in
        decisive-rest (next t.barred p) start (smallest_of v.count v.reported) (get_or (next t.barred p) (smallest_of v.count v.reported) p) here
        (decides (get_or (next t.barred p) (smallest_of v.count v.reported) p) here)

    -- none is decisive, where none was found and none stopped
    not-found : o ≡ None → v.count ≤ least → wins t.attacker t.barred (suc n) p ≡ not own
    not-found none all = none-rest (next t.barred p) start (λ k q here.
        let inside = slice_get_within (next t.barred p) k q here in
        ⊎_elim
        (λ (d : Decides t n p k false). d q here)
        (λ (s : HasStopBy o k). absurd (subst (λ (y : Option StoppedJob). HasStopBy y k) none s))
        (asked-below k (omega arith)))

    -- the least job that stopped is looked at, where it is below the least that was found
    stop-looked : (s : StoppedJob) → o ≡ Some s → s.job < least → (q : Position) → IsJob t p s.job q → In q (looked_at t.attacker t.barred n p)
    stop-looked s is below q here = looked-rest (next t.barred p) start s.job q here (λ j x small there.
        ⊎_elim
        (λ (d : Decides t n p j false). d x there)
        (λ (stop : HasStopBy o j). absurd (let late : s.job ≤ j = subst (λ (y : Option StoppedJob). HasStopBy y j) is stop in omega arith))
        (asked-below j (omega arith)))

    -- a stopped job is a job
    stop-job : (s : StoppedJob) → o ≡ Some s → HasStopped t n p s
    stop-job s is = subst (λ (y : Option StoppedJob). IfSome y (HasStopped t n p)) is worked.stop

    abbrev gives : ℕ → Bool
    gives job = gives_stop least v.count own job

    -- the verdict by whether a decisive job was found
    right : (b : Bool) → nat_lt least v.count ≡ b → (b ≡ false → wins t.attacker t.barred (suc n) p ≡ not own) → beq b own ≡ wins t.attacker t.barred (suc n) p
    right true is none = same own ∙ sym (found (grind (arith, nat_tests)))
      where
        same : (b : Bool) → beq true b ≡ b
        same true = refl
        same false = refl
    right false is none = other own ∙ sym (none refl)
      where
        other : (b : Bool) → beq false b ≡ not b
        other true = refl
        other false = refl

    -- where none was found, a stop is given
    never : (s : StoppedJob) → o ≡ Some s → gives s.job ≡ false → nat_lt least v.count ≡ false → ⊥
    never s is yields out =
        let at : HasStopped t n p s = stop-job s is in
        let inside = slice_get_within (next t.barred p) s.job s.stop.position at.kind.0 in
        let job : s.job < v.count = omega arith in
        let far : v.count ≤ least = grind (arith, nat_tests) in
        let below : nat_lt s.job least ≡ true = grind (arith, nat_tests) in
        cases own (sym (λ i. (below i) && (own || not (out i))) ∙ yields)
      where
        cases : (b : Bool) → (true && (b || not false)) ≡ false → ⊥
        cases true e = cc
        cases false e = cc

    -- the verdict that is given is right
    pub answer-verdict : IfOk (depth_answer least v.count own o) (λ b. b ≡ wins t.attacker t.barred (suc n) p)
    answer-verdict = by o refl
      where
        by : (y : Option StoppedJob) → o ≡ y → IfOk (depth_answer least v.count own y) (λ b. b ≡ wins t.attacker t.barred (suc n) p)
        by None is = right (nat_lt least v.count) refl (λ out. not-found is (grind (arith, nat_tests)))
        by (Some s) is = pick (gives s.job) refl
          where
            pick : (b : Bool) → gives s.job ≡ b → IfOk (depth_answer least v.count own (Some s)) (λ b. b ≡ wins t.attacker t.barred (suc n) p)
            pick true yields = rw yields tt
            pick false yields = rw yields (right (nat_lt least v.count) refl (λ out. absurd (never s is yields out)))

    -- the stop that is given names a question that is looked at
    pub answer-stop : IfErr (depth_answer least v.count own o) (IsStop t (λ q j. (j ≡ n) × IsIn (looked_at t.attacker t.barred n p) q))
    answer-stop = by o refl
      where
        by : (y : Option StoppedJob) → o ≡ y → IfErr (depth_answer least v.count own y) (IsStop t (λ q j. (j ≡ n) × IsIn (looked_at t.attacker t.barred n p) q))
        by None is = tt
        by (Some s) is = pick (gives s.job) refl
          where
            pick : (b : Bool) → gives s.job ≡ b → IfErr (depth_answer least v.count own (Some s)) (IsStop t (λ q j. (j ≡ n) × IsIn (looked_at t.attacker t.barred n p) q))
            pick false yields = rw yields tt
            pick true yields =
                let at : HasStopped t n p s = stop-job s is in
                let below : s.job < least = grind (arith, nat_tests) in
                rw yields (record {
                  kind = (at.kind.1, In-stands (looked_at t.attacker t.barred n p) s.stop.position (stop-looked s is below s.stop.position at.kind.0));
                  cause = at.cause;
                })

    -- so is what was heard
    pub heard-verdict : (r : Result Bool Stop) (k : ℕ) (mine : Bool) → r ≡ depth_answer least k mine o → k ≡ v.count → mine ≡ own → IfOk r (λ b. b ≡ wins t.attacker t.barred (suc n) p)
    heard-verdict r k mine is same mover =
        let F : Result Bool Stop → Type 0 = λ x. IfOk x (λ b. b ≡ wins t.attacker t.barred (suc n) p) in
        subst F (sym (is ∙ (λ i. depth_answer least (same i) (mover i) o))) answer-verdict

    pub heard-stop : (r : Result Bool Stop) (k : ℕ) (mine : Bool) → r ≡ depth_answer least k mine o → k ≡ v.count → mine ≡ own → IfErr r (IsStop t (λ q j. (j ≡ n) × IsIn (looked_at t.attacker t.barred n p) q))
    heard-stop r k mine is same mover =
        let F : Result Bool Stop → Type 0 = λ x. IfErr x (IsStop t (λ q j. (j ≡ n) × IsIn (looked_at t.attacker t.barred n p) q)) in
        subst F (sym (is ∙ (λ i. depth_answer least (same i) (mover i) o))) answer-stop

-- what a worker keeps as it goes on
module _ (t : Terms) (n : ℕ) (p : Position) where
  -- a seat that drew nothing
  pub worked-nothing : (v : SeatView) → v.drawn ≡ [] → v.reported ≡ [] → Worked t n p v None
  worked-nothing v drawn reported = record {
    asked = λ x small there seen. absurd (let F : List ℕ → Type 0 = λ xs. Stands x xs in nothing x (subst F drawn there));
    decisive = λ x there. absurd (let F : List ℕ → Type 0 = λ xs. Stands x xs in nothing x (subst F reported there));
    stop = tt;
  }
    where
      nothing : (x : ℕ) → Stands x [] → ⊥
      nothing x s = omega (arith, s)

  -- a job up to this number stopped, of two stops the earlier
  by-first : (o r : Option StoppedJob) (x : ℕ) → HasStopBy o x → HasStopBy (earlier o r) x
  by-first None r x s = absurd s
  by-first (Some a) None x s = s
  by-first (Some a) (Some b) x s = pick (nat_le a.job b.job) refl
    where
      pick : (c : Bool) → nat_le a.job b.job ≡ c → HasStopBy (earlier (Some a) (Some b)) x
      pick true is = rw is s
      pick false is = rw is (let late : b.job ≤ a.job = grind (arith, nat_tests) in let here : a.job ≤ x = s in omega arith)

  by-second : (o r : Option StoppedJob) (x : ℕ) → HasStopBy r x → HasStopBy (earlier o r) x
  by-second None r x s = s
  by-second (Some a) None x s = absurd s
  by-second (Some a) (Some b) x s = pick (nat_le a.job b.job) refl
    where
      pick : (c : Bool) → nat_le a.job b.job ≡ c → HasStopBy (earlier (Some a) (Some b)) x
      pick true is = rw is (let first : a.job ≤ b.job = grind (arith, nat_tests) in let here : b.job ≤ x = s in omega arith)
      pick false is = rw is s

  earlier-stop : (o r : Option StoppedJob) → IfSome o (HasStopped t n p) → IfSome r (HasStopped t n p) → IfSome (earlier o r) (HasStopped t n p)
  earlier-stop None r one other = other
  earlier-stop (Some a) None one other = one
  earlier-stop (Some a) (Some b) one other = pick (nat_le a.job b.job) refl
    where
      pick : (c : Bool) → nat_le a.job b.job ≡ c → IfSome (earlier (Some a) (Some b)) (HasStopped t n p)
      pick true is = rw is one
      pick false is = rw is other

  -- the job k was drawn, and the least was looked at
  abbrev Was : SeatView → SeatView → ℕ → ℕ → Type 0
  Was v u k seen = (u ≡ record (view_after_draw v k) { saw = seen }) × (seen ≤ v.saw)

  -- what is known of the jobs after one was drawn, where this one is accounted for
  step : (v u : SeatView) (o r : Option StoppedJob) (k : ℕ) → u.count ≡ v.count → u.drawn ≡ v.drawn ++ k ∷ [] → u.saw ≤ v.saw
      → ((x : ℕ) → Stands x v.reported → Stands x u.reported) → ((x : ℕ) → HasStopBy o x → HasStopBy r x)
      → (k ≤ u.saw → Stands k u.reported ⊎ (Decides t n p k false ⊎ HasStopBy r k))
      → ((x : ℕ) → Stands x u.reported → Decides t n p x true) → IfSome r (HasStopped t n p)
      → Worked t n p v o → Worked t n p u r
  step v u o r k count drawn saw kept_reports kept_stops this decisive stop w = record {
    asked = λ x small there seen.
        ⊎_elim
        (λ (same : x ≡ k). subst (λ (y : ℕ). Stands y u.reported ⊎ (Decides t n p y false ⊎ HasStopBy r y)) (sym same) (this (subst (λ (y : ℕ). y ≤ u.saw) same seen)))
        (λ (old : Stands x v.drawn).
        ⊎_elim
        (λ (reported : Stands x v.reported). inl (kept_reports x reported))
        (λ (other : Decides t n p x false ⊎ HasStopBy o x).
        ⊎_elim (λ (d : Decides t n p x false). inr (inl d)) (λ (s : HasStopBy o x). inr (inr (kept_stops x s))) other)
        (w.asked x (omega arith) old (omega arith)))
        (stands-snoc x k v.drawn (let F : List ℕ → Type 0 = λ xs. Stands x xs in subst F drawn there));
    decisive = decisive;
    stop = stop;
  }

  -- after the job k was drawn, the seat looked at the least
  module _ (v w u : SeatView) (k least : ℕ) (drew : w ≡ view_after_draw v k) (looked : Looked w u least) where
    count-is : u.count ≡ v.count
    count-is = ap (λ (y : SeatView). y.count) looked.0 ∙ ap (λ (y : SeatView). y.count) drew

    drawn-is : u.drawn ≡ v.drawn ++ k ∷ []
    drawn-is = ap (λ (y : SeatView). y.drawn) looked.0 ∙ ap (λ (y : SeatView). y.drawn) drew

    reported-is : u.reported ≡ v.reported
    reported-is = ap (λ (y : SeatView). y.reported) looked.0 ∙ ap (λ (y : SeatView). y.reported) drew

    saw-is : u.saw ≡ least
    saw-is = ap (λ (y : SeatView). y.saw) looked.0

    lower : u.saw ≤ v.saw
    lower = let a : w.saw ≡ v.saw = ap (λ (y : SeatView). y.saw) drew in let b = saw-is in let c = looked.1 in omega arith

    to : (x : ℕ) → Stands x v.reported → Stands x u.reported
    to x r = let F : List ℕ → Type 0 = λ xs. Stands x xs in subst F (sym reported-is) r

    from : (x : ℕ) → Stands x u.reported → Stands x v.reported
    from x r = let F : List ℕ → Type 0 = λ xs. Stands x xs in subst F reported-is r

    -- the job is above the least
    pub worked-skip : (o : Option StoppedJob) → least < k → Worked t n p v o → Worked t n p u o
    worked-skip o skip wk = step v u o o k count-is drawn-is lower to (λ x s. s) (λ seen. absurd (let a = saw-is in omega arith)) (λ x r. wk.decisive x (from x r)) wk.stop wk

    -- it is not decisive
    pub worked-goes : (o : Option StoppedJob) → Decides t n p k false → Worked t n p v o → Worked t n p u o
    worked-goes o goes wk = step v u o o k count-is drawn-is lower to (λ x s. s) (λ seen. inr (inl goes)) (λ x r. wk.decisive x (from x r)) wk.stop wk

    -- it stopped
    pub worked-stop : (o : Option StoppedJob) (s : StoppedJob) → s.job ≡ k → HasStopped t n p s → Worked t n p v o → Worked t n p u (earlier o (Some s))
    worked-stop o s is stop wk = step v u o (earlier o (Some s)) k count-is drawn-is lower to (λ x here. by-first o (Some s) x here)
        (λ seen. inr (inr (by-second o (Some s) k (let here : s.job ≤ k = omega arith in here)))) (λ x r. wk.decisive x (from x r)) (earlier-stop o (Some s) wk.stop stop) wk

    -- it is decisive, and is reported
    pub worked-report : (o : Option StoppedJob) (z : SeatView) → Reported u z k → Decides t n p k true → Worked t n p v o → Worked t n p z o
    worked-report o z reported decides wk =
        let is : z ≡ view_after_report u k reported.0 = reported.1 in
        let count : z.count ≡ v.count = ap (λ (y : SeatView). y.count) is ∙ count-is in
        let drawn : z.drawn ≡ v.drawn ++ k ∷ [] = ap (λ (y : SeatView). y.drawn) is ∙ drawn-is in
        let all : z.reported ≡ u.reported ++ k ∷ [] = ap (λ (y : SeatView). y.reported) is in
        let low : z.saw ≤ v.saw = (let a : z.saw ≡ reported.0 = ap (λ (y : SeatView). y.saw) is in let b = reported.3 in let c = lower in omega arith) in
        step v z o o k count drawn low
        (λ x r. let F : List ℕ → Type 0 = λ xs. Stands x xs in subst F (sym all) (stands-first x u.reported (k ∷ []) (to x r)))
        (λ x s. s)
        (λ seen. inl (let F : List ℕ → Type 0 = λ xs. Stands k xs in subst F (sym all) (stands-last k u.reported)))
        (λ x r. ⊎_elim
        (λ (same : x ≡ k). subst (λ (y : ℕ). Decides t n p y true) (sym same) decides)
        (λ (old : Stands x u.reported). wk.decisive x (from x old))
        (stands-snoc x k u.reported (let F : List ℕ → Type 0 = λ xs. Stands x xs in subst F all r)))
        wk.stop wk

  -- no job was left to draw
  pub worked-none : (v w : SeatView) (o : Option StoppedJob) → DrewNoJob v w → Worked t n p v o → Worked t n p w o
  worked-none v w o (inl same) wk = subst (λ (y : SeatView). Worked t n p y o) (sym same) wk
  worked-none v w o (inr (k, far, drew)) wk =
      let count : w.count ≡ v.count = ap (λ (y : SeatView). y.count) drew in
      let drawn : w.drawn ≡ v.drawn ++ k ∷ [] = ap (λ (y : SeatView). y.drawn) drew in
      let reported : w.reported ≡ v.reported = ap (λ (y : SeatView). y.reported) drew in
      let saw : w.saw ≡ v.saw = ap (λ (y : SeatView). y.saw) drew in
      record {
        asked = λ x small there seen.
            ⊎_elim
            (λ (same : x ≡ k). absurd (omega arith))
            (λ (old : Stands x v.drawn). subst (λ (xs : List ℕ). Stands x xs ⊎ (Decides t n p x false ⊎ HasStopBy o x)) (sym reported) (wk.asked x (omega arith) old (omega arith)))
            (stands-snoc x k v.drawn (let F : List ℕ → Type 0 = λ xs. Stands x xs in subst F drawn there));
        decisive = λ x r. wk.decisive x (let F : List ℕ → Type 0 = λ xs. Stands x xs in subst F reported r);
        stop = wk.stop;
      }

  -- what two seats know together
  pub worked-join : (v w : SeatView) (o r : Option StoppedJob) → w.count ≡ v.count → Worked t n p v o → Worked t n p w r → Worked t n p (view_after_join v w) (earlier o r)
  worked-join v w o r same a b = record {
    asked = λ x small there seen.
        ⊎_elim
        (λ (first : Stands x v.drawn).
        ⊎_elim
        (λ (reported : Stands x v.reported). inl (stands-first x v.reported w.reported reported))
        (λ (other : Decides t n p x false ⊎ HasStopBy o x).
        ⊎_elim (λ (d : Decides t n p x false). inr (inl d)) (λ (s : HasStopBy o x). inr (inr (by-first o r x s))) other)
        (a.asked x small first (omega arith)))
        (λ (second : Stands x w.drawn).
        ⊎_elim
        (λ (reported : Stands x w.reported). inl (stands-second x v.reported w.reported reported))
        (λ (other : Decides t n p x false ⊎ HasStopBy r x).
        ⊎_elim (λ (d : Decides t n p x false). inr (inl d)) (λ (s : HasStopBy r x). inr (inr (by-second o r x s))) other)
        (b.asked x (omega arith) second (omega arith)))
        (stands-either x v.drawn w.drawn there);
    decisive = λ x there. ⊎_elim (λ (first : Stands x v.reported). a.decisive x first) (λ (second : Stands x w.reported). b.decisive x second) (stands-either x v.reported w.reported there);
    stop = earlier-stop o r a.stop b.stop;
  }
