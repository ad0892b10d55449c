-- What the answer of the checker means.
use Rattle.std.proofs.Common.{◌≡◌, ℕ, zero, suc, ◌+◌, ◌-◌, ◌<◌, ◌≤◌, List, [], ◌∷◌, ◌++◌, length, Option, None, Some, Bool, true, false, cond, not, is_some, inl, inr, refl, sym, ◌∙◌, ap, subst, arith, append_assoc, length-append, true≢false, ⊎_elim, eqb-true}
use Rattle.std.specs.Prelude.{◌⊎◌, ◌==◌, nat_lt}
use Rattle.std.specs.List.{AllByRecursion, Contains, list_all}
use Rattle.std.proofs.lemmas.Bool.{both_ways, false_from_ne_true, ltb-true}
use Rattle.std.proofs.lemmas.List.{append-nil}
use Rattle.std.proofs.lemmas.List.Elements.{Contains-append_right}
use Rattle.arimaa_board.specs.declared.piece.Color.{Color}
use Rattle.arimaa_board.specs.Board.{same_color}
use Rattle.arimaa_board.specs.declared.position.Position.{Position}
use Rattle.arimaa_board.specs.declared.ending.Ending.{Ending}
use Rattle.arimaa_model.specs.DecidedPositions.{decided}
use Rattle.arimaa_model.specs.Results.{stands_in, next}
use Rattle.arimaa_model.specs.Wins.{wins}
use Rattle.arimaa_model.proofs.Lemmas.Positions.{same_color-Decides}
use Rattle.arimaa_strategy.specs.Faults.{led_to}
use Rattle.arimaa_refute.specs.declared.escape.Escape.{Escape}
use Rattle.arimaa_refute.specs.declared.verify_answer.Flaw.{Flaw}
use Rattle.arimaa_refute.specs.declared.verify_answer.Flaw.TheVariants as flaw
use Rattle.arimaa_refute.specs.declared.verify_answer.Verified.{Verified}
use Rattle.arimaa_refute.specs.declared.verify_answer.Verified.TheVariants as verified
use Rattle.arimaa_refute.specs.declared.look.Look.{Look}
use Rattle.arimaa_refute.specs.declared.look.Look.TheVariants as looks
use Rattle.arimaa_refute.specs.declared.look.Finding.{Finding}
use Rattle.arimaa_refute.specs.declared.look.Finding.TheVariants as finds
use Rattle.arimaa_refute.specs.Escapes.{entry_of, is_safe, are_safe, is_held, is_root_held, Holds}
use Rattle.arimaa_refute.specs.Flaws.{positions_of, flaw_by, flaw_after, flaw_of, AreFlawless}
use Rattle.arimaa_refute.specs.Findings.{look_through, look_by, look_at, finding_of, finding_after, finding_at, answer_or, first_answer, root_look, root_answer, answer_with, verified_of}
use Rattle.arimaa_refute.specs.Checks.{IsFrom, IfAccepted, IfRefused, IfCrowded, IsFirstFlaw, IsRootFlaw, IsFirstAsked, IsRootAsked, HasRoom, IsVerified}
use Rattle.arimaa_refute.specs.Checks.AreAsked.{escape as asked_escape, root as asked_root}
use Rattle.arimaa_refute.proofs.HeldRoots.{held-lost}
use Rattle.arimaa_refute.proofs.OwnEscapesHold.{own-holds}
use Rattle.arimaa_refute.proofs.Lemmas.FlawLaws.{all-good, all-flawless}

-- ---- looks

-- what a look at a position with the attacker to move says: it is held; or it isn't, being decided
-- for the attacker or with a reply that isn't safe; or the replies are too many
abbrev Says : Look → Option Flaw → Bool → Type 0 → Type 0
Says looks.Held why held Long = (why ≡ None) × (held ≡ true)
Says looks.Lost why held Long = (why ≡ Some flaw.Lost) × (held ≡ false)
Says looks.Open why held Long = (why ≡ Some flaw.Reply) × (held ≡ false)
Says looks.Crowded why held Long = Long

module _ (room : ℕ) (a : Color) (barred : List Position) (c : List Escape) where
  -- turns are left, and the replies to an undecided position are more than there is room for
  pub record TooLong (k : ℕ) (q : Position) : Type 0 where
    pub some : 1 ≤ k
    pub undecided : decided q ≡ None
    pub long : room < length (next barred q)

  says-through : (k : ℕ) (qs : List Position) (Long : Type 0) → (room < length qs → Long)
      → Says (look_through room a barred c k qs) (cond (list_all (is_safe a barred c k) qs) None (Some flaw.Reply)) (list_all (is_safe a barred c k) qs) Long
  says-through k qs Long long =
      elim (nat_lt room (length qs)) as (λ v. nat_lt room (length qs) ≡ v
      → Says (cond v looks.Crowded (cond (list_all (is_safe a barred c k) qs) looks.Held looks.Open)) (cond (list_all (is_safe a barred c k) qs) None (Some flaw.Reply)) (list_all (is_safe a barred c k) qs) Long) [
        | true ↦ λ over. long (ltb-true _ _ over)
        | false ↦ λ _. elim (list_all (is_safe a barred c k) qs) as (λ v. Says (cond v looks.Held looks.Open) (cond v None (Some flaw.Reply)) v Long) [
          | true ↦ (refl, refl)
          | false ↦ (refl, refl)
        ]
      ] refl

  says-open : (k : ℕ) (r : Position) → decided r ≡ None → Says (look_by room a barred c k r None) (flaw_by a barred c k r None) (are_safe a barred c k (next barred r)) (TooLong k r)
  says-open zero r undecided = (refl, refl)
  says-open (suc k) r undecided =
      let some : (suc k == 0) ≡ false = false_from_ne_true _ (λ e. let none : suc k ≡ 0 = eqb-true (suc k) 0 e in absurd (omega arith)) in
      let less : suc k - 1 ≡ k = omega arith in
      let look : look_by room a barred c (suc k) r None ≡ look_through room a barred c k (next barred r) = λ i. cond (some i) looks.Held (look_through room a barred c (less i) (next barred r)) in
      subst (λ (l : Look). Says l (flaw_by a barred c (suc k) r None) (are_safe a barred c (suc k) (next barred r)) (TooLong (suc k) r)) (sym look)
      (says-through k (next barred r) (TooLong (suc k) r) (λ long. record { some = omega arith; undecided = undecided; long = long }))

  says-by : (k : ℕ) (r : Position) (o : Option Ending) → decided r ≡ o → Says (look_by room a barred c k r o) (flaw_by a barred c k r o) (is_held a barred c k r) (TooLong k r)
  says-by k r (Some e) is =
      let held : is_held a barred c k r ≡ not (same_color e.winner a) = rw is refl in
      subst (λ (h : Bool). Says (look_by room a barred c k r (Some e)) (flaw_by a barred c k r (Some e)) h (TooLong k r)) (sym held)
      (elim (same_color e.winner a) as (λ v. Says (cond v looks.Lost looks.Held) (cond v (Some flaw.Lost) None) (not v) (TooLong k r)) [ true ↦ (refl, refl) | false ↦ (refl, refl) ])
  says-by k r None is =
      let held : is_held a barred c k r ≡ are_safe a barred c k (next barred r) = rw is refl in
      subst (λ (h : Bool). Says (look_by room a barred c k r None) (flaw_by a barred c k r None) h (TooLong k r)) (sym held) (says-open k r is)

  says-at : (k : ℕ) (r : Position) → Says (look_at room a barred c k r) (flaw_by a barred c k r (decided r)) (is_held a barred c k r) (TooLong k r)
  unfolding look_at
  says-at k r = says-by k r (decided r) refl

  -- ---- escapes

  -- what is found, beside the flaw: none where it is good, this one where it is faulty, and a fact of the position whose replies are too many
  abbrev Finds : Finding → Option Flaw → (Position → Type 0) → Type 0
  Finds finds.Good why Long = why ≡ None
  Finds (finds.Faulty w) why Long = why ≡ Some w
  Finds (finds.Crowded q) why Long = Long q

  -- the replies to the position that an escape leads to are asked for, and are too many
  pub record IsAskedAt (earlier : List Escape) (e : Escape) (q : Position) : Type 0 where
    pub once : stands_in (positions_of earlier) e.position ≡ false
    pub undecided : decided e.position ≡ None
    pub leads : led_to barred (entry_of e) ≡ Some q
    pub long : TooLong (e.depth - 1) q

  finds-look : (r : Position) (why : Option Flaw) (held : Bool) (Long : Position → Type 0) (look : Look) → Says look why held (Long r) → Finds (finding_of r look) why Long
  finds-look r why held Long looks.Held h = h.0
  finds-look r why held Long looks.Lost h = h.0
  finds-look r why held Long looks.Open h = h.0
  finds-look r why held Long looks.Crowded h = h

  says-weaker : (look : Look) (why : Option Flaw) (held : Bool) (P Q : Type 0) → (P → Q) → Says look why held P → Says look why held Q
  says-weaker looks.Held why held P Q f h = h
  says-weaker looks.Lost why held P Q f h = h
  says-weaker looks.Open why held P Q f h = h
  says-weaker looks.Crowded why held P Q f h = f h

  finds-after : (earlier : List Escape) (e : Escape) (o : Option Position) → led_to barred (entry_of e) ≡ o → stands_in (positions_of earlier) e.position ≡ false → decided e.position ≡ None
      → Finds (finding_after room a barred c (e.depth - 1) o) (flaw_after a barred c (e.depth - 1) o) (IsAskedAt earlier e)
  finds-after earlier e None is once undecided = refl
  finds-after earlier e (Some q) is once undecided =
      finds-look q (flaw_by a barred c (e.depth - 1) q (decided q)) (is_held a barred c (e.depth - 1) q) (IsAskedAt earlier e) (look_at room a barred c (e.depth - 1) q)
      (says-weaker (look_at room a barred c (e.depth - 1) q) (flaw_by a barred c (e.depth - 1) q (decided q)) (is_held a barred c (e.depth - 1) q) (TooLong (e.depth - 1) q) (IsAskedAt earlier e q)
      (λ long. record { once = once; undecided = undecided; leads = is; long = long })
      (says-at (e.depth - 1) q))

  finds-at : (earlier : List Escape) (e : Escape) → Finds (finding_at room a barred c earlier e) (flaw_of a barred c earlier e) (IsAskedAt earlier e)
  unfolding finding_at flaw_of
  finds-at earlier e =
      elim (stands_in (positions_of earlier) e.position) as (λ v. stands_in (positions_of earlier) e.position ≡ v
      → Finds (cond v (finds.Faulty flaw.Twice) (cond (is_some (decided e.position)) (finds.Faulty flaw.Decided) (finding_after room a barred c (e.depth - 1) (led_to barred (entry_of e)))))
      (cond v (Some flaw.Twice) (cond (is_some (decided e.position)) (Some flaw.Decided) (flaw_after a barred c (e.depth - 1) (led_to barred (entry_of e))))) (IsAskedAt earlier e)) [
        | true ↦ λ _. refl
        | false ↦ λ once. elim (decided e.position) as (λ o. decided e.position ≡ o
            → Finds (cond (is_some o) (finds.Faulty flaw.Decided) (finding_after room a barred c (e.depth - 1) (led_to barred (entry_of e))))
            (cond (is_some o) (Some flaw.Decided) (flaw_after a barred c (e.depth - 1) (led_to barred (entry_of e)))) (IsAskedAt earlier e)) [
              | Some x ↦ λ _. refl
              | None ↦ λ undecided. finds-after earlier e (led_to barred (entry_of e)) refl once undecided
            ] refl
      ] refl

  -- one more escape without a flaw
  flawless-more : (base es : List Escape) (e : Escape) → AreFlawless a barred c base es → flaw_of a barred c (base ++ es) e ≡ None → AreFlawless a barred c base (es ++ e ∷ [])
  flawless-more base [] e h one = (ap (λ l. flaw_of a barred c l e) (sym (append-nil base)) ∙ one, tt)
  flawless-more base (d ∷ es) e h one = (h.0, flawless-more (base ++ d ∷ []) es e h.1 (ap (λ l. flaw_of a barred c l e) (append_assoc base (d ∷ []) es) ∙ one))

  -- no escape among those without a flaw has one
  flawless-at : (base es : List Escape) (e : Escape) (later : List Escape) → AreFlawless a barred c base (es ++ e ∷ later) → flaw_of a barred c (base ++ es) e ≡ None
  flawless-at base [] e later h = ap (λ l. flaw_of a barred c l e) (append-nil base) ∙ h.0
  flawless-at base (d ∷ es) e later h = ap (λ l. flaw_of a barred c l e) (sym (append_assoc base (d ∷ []) es)) ∙ flawless-at (base ++ d ∷ []) es e later h.1

  -- what the answer at the escapes says
  abbrev AtEscapes : Option Verified → Type 0
  AtEscapes None = AreFlawless a barred c [] c
  AtEscapes (Some verified.Accepted) = ⊥
  AtEscapes (Some (verified.Refused number w)) = IsFirstFlaw a barred c number w
  AtEscapes (Some (verified.Crowded q)) = (room < length (next barred q)) × IsFirstAsked a barred c q

  at-escape : (number : ℕ) (earlier : List Escape) (e : Escape) (later : List Escape) (f : Finding) (rest : Option Verified) → c ≡ earlier ++ e ∷ later → number ≡ length earlier + 1 → AreFlawless a barred c [] earlier
      → Finds f (flaw_of a barred c earlier e) (IsAskedAt earlier e) → (flaw_of a barred c earlier e ≡ None → AtEscapes rest) → AtEscapes (answer_or number f rest)
  at-escape number earlier e later finds.Good rest split counted good found more = more found
  at-escape number earlier e later (finds.Faulty w) rest split counted good found more =
      record { earlier = earlier; escape = e; later = later; split = split; counted = counted; good = good; faulty = found }
  at-escape number earlier e later (finds.Crowded q) rest split counted good found more =
      let some = found.long.some in (
        found.long.long,
        record { earlier = earlier; escape = e; later = later; split = split; good = good; once = found.once; undecided = found.undecided; deep = omega (arith, some); leads = found.leads; open_result = found.long.undecided },
      )

  at-escapes : (number : ℕ) (earlier es : List Escape) → c ≡ earlier ++ es → number ≡ length earlier + 1 → AreFlawless a barred c [] earlier → AtEscapes (first_answer room a barred c number earlier es)
  at-escapes number earlier [] split counted good = subst (λ (l : List Escape). AreFlawless a barred c [] l) (sym (split ∙ append-nil earlier)) good
  at-escapes number earlier (e ∷ es) split counted good =
      at-escape number earlier e es (finding_at room a barred c earlier e) (first_answer room a barred c (number + 1) (earlier ++ e ∷ []) es) split counted good (finds-at earlier e)
      (λ none. at-escapes (number + 1) (earlier ++ e ∷ []) es (split ∙ sym (append_assoc earlier (e ∷ []) es)) (omega (arith, counted, length-append earlier (e ∷ []))) (flawless-more [] earlier e good none))

  -- ---- the root

  module _ (n : ℕ) (p : Position) where
    -- what the answer at the root says, where no escape has a flaw
    abbrev AtRoot : Verified → Type 0
    AtRoot verified.Accepted = is_root_held a barred c n p ≡ true
    AtRoot (verified.Refused number w) = (number ≡ 0) × (w ≡ flaw.Root) × (is_root_held a barred c n p ≡ false)
    AtRoot (verified.Crowded q) = (q ≡ p) × (same_color p.side a ≡ true) × TooLong n p

    -- what a look at the root says
    abbrev SaysRoot : Look → Bool → Type 0
    SaysRoot looks.Held held = held ≡ true
    SaysRoot looks.Lost held = held ≡ false
    SaysRoot looks.Open held = held ≡ false
    SaysRoot looks.Crowded held = (same_color p.side a ≡ true) × TooLong n p

    root-of : (look : Look) (why : Option Flaw) (held : Bool) → same_color p.side a ≡ true → Says look why held (TooLong n p) → SaysRoot look held
    root-of looks.Held why held own h = h.1
    root-of looks.Lost why held own h = h.1
    root-of looks.Open why held own h = h.1
    root-of looks.Crowded why held own h = (own, h)

    safe-root : (v : Bool) → SaysRoot (cond v looks.Held looks.Open) v
    safe-root true = refl
    safe-root false = refl

    root-says : SaysRoot (root_look room a barred n c p) (is_root_held a barred c n p)
    root-says =
        elim (same_color p.side a) as (λ v. same_color p.side a ≡ v → SaysRoot (cond v (look_at room a barred c n p) (cond (is_safe a barred c n p) looks.Held looks.Open)) (cond v (is_held a barred c n p) (is_safe a barred c n p))) [
          | true ↦ λ own. root-of (look_at room a barred c n p) (flaw_by a barred c n p (decided p)) (is_held a barred c n p) own (says-at n p)
          | false ↦ λ _. safe-root (is_safe a barred c n p)
        ] refl

    at-root : (look : Look) → SaysRoot look (is_root_held a barred c n p) → AtRoot (root_answer p look)
    at-root looks.Held h = h
    at-root looks.Lost h = (refl, refl, h)
    at-root looks.Open h = (refl, refl, h)
    at-root looks.Crowded h = (refl, h.0, h.1)

    -- ---- the whole answer

    -- what an answer says, by its kind
    pub record Facts (answer : Verified) : Type 0 where
      pub accepted : IfAccepted answer (Holds a barred n c p)
      pub refused : IfRefused answer (λ number w. IsFirstFlaw a barred c number w ⊎ IsRootFlaw a barred n c p number w)
      pub crowded : IfCrowded answer (λ q. (room < length (next barred q)) × (IsFirstAsked a barred c q ⊎ IsRootAsked a barred n c p q))

    facts-root : (answer : Verified) → AllByRecursion (IsFrom a) c → AreFlawless a barred c [] c → AtRoot answer → Facts answer
    facts-root verified.Accepted from good h = record { accepted = record { escapes = all-good a barred c [] c from good; root = h }; refused = tt; crowded = tt }
    facts-root (verified.Refused number w) from good h = record { accepted = tt; refused = inr (record { zero = h.0; root = h.1; good = good; open_root = h.2 }); crowded = tt }
    facts-root (verified.Crowded q) from good h = record {
      accepted = tt;
      refused = tt;
      crowded = (
        subst (λ (x : Position). room < length (next barred x)) (sym h.0) h.2.long,
        inr (record { root = h.0; good = good; side = (same_color-Decides p.side a).0 h.1; deep = h.2.some; undecided = h.2.undecided }),
      );
    }

    facts-with : (o : Option Verified) (root : Verified) → AllByRecursion (IsFrom a) c → AtEscapes o → AtRoot root → Facts (answer_with root o)
    facts-with None root from good h = facts-root root from good h
    facts-with (Some verified.Accepted) root from wrong h = absurd wrong
    facts-with (Some (verified.Refused number w)) root from first h = record { accepted = tt; refused = inl first; crowded = tt }
    facts-with (Some (verified.Crowded q)) root from first h = record { accepted = tt; refused = tt; crowded = (first.0, inl first.1) }

    facts : AllByRecursion (IsFrom a) c → Facts (verified_of room a barred n c p)
    unfolding verified_of
    facts from =
        facts-with (first_answer room a barred c 1 [] c) (root_answer p (root_look room a barred n c p)) from
        (at-escapes 1 [] c refl refl tt) (at-root (root_look room a barred n c p) root-says)

    faulty-none : {w : Flaw} {o : Option Flaw} → o ≡ None → o ≡ Some w → ⊥
    faulty-none none some = let wrong : true ≡ false = cc in true≢false wrong

    complete : (answer : Verified) → Facts answer → HasRoom a barred n room c p → Holds a barred n c p → answer ≡ verified.Accepted
    complete verified.Accepted h fits good = refl
    complete (verified.Refused number w) h fits good = absurd (⊎_elim escape root h.refused) where
      escape : IsFirstFlaw a barred c number w → ⊥
      escape first =
          let none = all-flawless a barred c [] c good.escapes in
          faulty-none (flawless-at [] first.earlier first.escape first.later (subst (λ (l : List Escape). AreFlawless a barred c [] l) first.split none)) first.faulty

      root : IsRootFlaw a barred n c p number w → ⊥
      root last = both_ways _ last.open_root good.root
    complete (verified.Crowded q) h fits good = absurd (⊎_elim escape root h.crowded.1) where
      escape : IsFirstAsked a barred c q → ⊥
      escape first =
          let there : Contains c first.escape = subst (λ (l : List Escape). Contains l first.escape) (sym first.split) (Contains-append_right first.earlier (first.escape ∷ first.later) first.escape (0, omega arith, refl)) in
          let short = fits q (asked_escape first.escape q there first.deep first.leads first.open_result) in omega (arith, h.crowded.0)

      root : IsRootAsked a barred n c p q → ⊥
      root last = let short = fits p (asked_root last.side last.deep last.undecided) in let same : length (next barred q) ≡ length (next barred p) = ap (λ (x : Position). length (next barred x)) last.root in omega (arith, h.crowded.0)

    lost : (answer : Verified) → Facts answer → IfAccepted answer (wins a barred n p ≡ false)
    lost verified.Accepted h = held-lost a barred c n p h.accepted
    lost (verified.Refused number w) h = tt
    lost (verified.Crowded q) h = tt

    pub answer-verified : (answer : Verified) → AllByRecursion (IsFrom a) c → answer ≡ verified_of room a barred n c p → IsVerified a barred n room c p answer
    answer-verified answer from is =
        let all : Facts answer = subst Facts (sym is) (facts from) in
        record {
          accepted = all.accepted;
          lost = lost answer all;
          refused = all.refused;
          crowded = all.crowded;
          complete = complete answer all;
          own = λ unwon small own fits. complete answer all fits (subst (λ (l : List Escape). Holds a barred n l p) (sym own) (own-holds a barred n p small unwon));
        }
