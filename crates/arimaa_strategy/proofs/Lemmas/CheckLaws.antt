-- What the answer of the checker means.
use Rattle.std.proofs.Common.{◌≡◌, ℕ, suc, ◌+◌, ◌<◌, ◌≤◌, List, [], ◌∷◌, ◌++◌, length, map, Option, None, Some, Bool, true, false, cond, not, is_some, inl, inr, refl, sym, ◌∙◌, ap, subst, arith, append_assoc, length-append, true≢false, ⊎_elim, le-leb, leb-true}
use Rattle.std.specs.Prelude.{◌⊎◌, ◌==◌, nat_le, nat_lt, IsTrue}
use Rattle.std.specs.List.{Contains, list_all}
use Rattle.std.proofs.lemmas.Bool.{both_ways, ltb-true}
use Rattle.std.proofs.lemmas.List.{append-nil}
use Rattle.std.proofs.lemmas.List.Elements.{Contains-append_right}
use Rattle.arimaa_board.specs.declared.piece.Color.{Color}
use Rattle.arimaa_board.specs.Board.{same_color}
use Rattle.arimaa_board.specs.declared.position.Position.{Position}
use Rattle.arimaa_board.specs.declared.ending.Ending.{Ending}
use Rattle.arimaa_model.specs.DecidedPositions.{decided}
use Rattle.arimaa_model.specs.Results.{next}
use Rattle.arimaa_model.specs.Ranks.{IsRank, above}
use Rattle.arimaa_model.specs.Wins.{wins}
use Rattle.arimaa_model.specs.Game.{barred_by, present}
use Rattle.arimaa_model.specs.Strategies.{Planned, find_entry, strategy_of}
use Rattle.arimaa_model.proofs.Lemmas.Positions.{same_color-Decides}
use Rattle.arimaa_forced.specs.declared.entry.Entry.{Entry}
use Rattle.arimaa_forced.specs.Acceptance.{s_rank, q_rank, is_covered, is_answered, is_ready, root_rank, Accepts}
use Rattle.arimaa_forced.specs.Entries.{AcceptsEntries, has_right_marks, entry_with_marks}
use Rattle.arimaa_forced.proofs.Lemmas.Plays.{accepted-plays, accepted-wins}
use Rattle.arimaa_forced.proofs.Lemmas.OwnStrategies.{made-accepted, made-ranked}
use Rattle.arimaa_forced.proofs.Lemmas.NotedEntries.{planned-written, written-marked}
use Rattle.arimaa_strategy.specs.declared.check_answer.Why.{Why}
use Rattle.arimaa_strategy.specs.declared.check_answer.Why.TheVariants as why
use Rattle.arimaa_strategy.specs.declared.check_answer.Checked.{Checked}
use Rattle.arimaa_strategy.specs.declared.check_answer.Checked.TheVariants as checked
use Rattle.arimaa_strategy.specs.declared.look.Look.{Look}
use Rattle.arimaa_strategy.specs.declared.look.Look.TheVariants as looks
use Rattle.arimaa_strategy.specs.declared.look.Finding.{Finding}
use Rattle.arimaa_strategy.specs.declared.look.Finding.TheVariants as finds
use Rattle.arimaa_strategy.specs.Entries.{plan_of}
use Rattle.arimaa_strategy.specs.Faults.{led_to, rank_fault, fault_by, fault_after, fault_of, root_fault, AreFaultless}
use Rattle.arimaa_strategy.specs.Findings.{look_of, look_by, look_at, replies_rank, covered_rank, finding_of, finding_after, finding_at, answer_or, first_answer, root_look, root_answer, answer_with, checked_of}
use Rattle.arimaa_strategy.specs.Checks.{IfAccepted, IfRefused, IfCrowded, IsFirstFault, IsRootFault, IsFirstAsked, IsRootAsked, HasRoom, IsChecked, IsWonBy}
use Rattle.arimaa_strategy.specs.Checks.AreAsked.{entry as asked_of, root as asked_root}
use Rattle.arimaa_strategy.proofs.Ranks.{covered-rank, replies-rank, Says, says_of, IsLong, says-at}
use Rattle.arimaa_strategy.proofs.Lemmas.FaultLaws.{all_good, all_faultless}

-- ---- entries

-- what is found, beside the fault: none where it is good, this one where it is faulty, and a fact of the position whose replies are too many
abbrev Finds : Finding → Option Why → (Position → Type 0) → Type 0
Finds finds.Good fault Long = fault ≡ None
Finds (finds.Faulty w) fault Long = fault ≡ Some w
Finds (finds.Crowded q) fault Long = Long q

finds_rank : (rank r : ℕ) (Long : Position → Type 0) → Finds (cond (rank == suc r) finds.Good (finds.Faulty why.Rank)) (rank_fault rank r) Long
finds_rank rank r Long = elim (rank == suc r) as (λ v. Finds (cond v finds.Good (finds.Faulty why.Rank)) (cond v None (Some why.Rank)) Long) [ true ↦ refl | false ↦ refl ]

module _ (room : ℕ) (a : Color) (barred : List Position) where
  -- the replies to an undecided position are more than there is room for
  abbrev TooLong : Position → Type 0
  TooLong q = (decided q ≡ None) × (room < length (next barred q))

  -- it is this position, and its replies are too many
  abbrev IsLongAt : Position → Position → Type 0
  IsLongAt q x = (x ≡ q) × TooLong q

  finds_by : (s : List Planned) (rank : ℕ) (q : Position) (o : Option Ending) → decided q ≡ o → Finds (finding_of rank q (look_by room a barred s q o)) (fault_by a barred s rank q o) (IsLongAt q)
  finds_by s rank q (Some e) is =
      elim (same_color e.winner a) as (λ v. Finds (finding_of rank q (cond v (looks.Rank 0) looks.Lost)) (cond v (rank_fault rank 0) (Some why.Lost)) (IsLongAt q)) [ true ↦ finds_rank rank 0 (IsLongAt q) | false ↦ refl ]
  finds_by s rank q None is =
      elim (nat_lt room (length (next barred q))) as (λ v. nat_lt room (length (next barred q)) ≡ v
      → Finds (finding_of rank q (cond v looks.Crowded (look_of (replies_rank a s (next barred q))))) (cond (list_all (is_covered a s) (next barred q)) (rank_fault rank (above (map (s_rank a s) (next barred q)))) (Some why.Reply)) (IsLongAt q)) [
        | true ↦ λ long. (refl, (is, ltb-true _ _ long))
        | false ↦ λ short.
            subst (λ (r : Option ℕ). Finds (finding_of rank q (look_of r)) (cond (list_all (is_covered a s) (next barred q)) (rank_fault rank (above (map (s_rank a s) (next barred q)))) (Some why.Reply)) (IsLongAt q)) (sym (replies-rank a s (next barred q)))
            (elim (list_all (is_covered a s) (next barred q)) as (λ v. Finds (finding_of rank q (look_of (cond v (Some (above (map (s_rank a s) (next barred q)))) None))) (cond v (rank_fault rank (above (map (s_rank a s) (next barred q)))) (Some why.Reply)) (IsLongAt q)) [
              | true ↦ finds_rank rank (above (map (s_rank a s) (next barred q))) (IsLongAt q)
              | false ↦ refl
            ])
      ] refl

  finds_look : (s : List Planned) (rank : ℕ) (q : Position) → Finds (finding_of rank q (look_at room a barred s q)) (fault_by a barred s rank q (decided q)) (IsLongAt q)
  unfolding look_at
  finds_look s rank q = finds_by s rank q (decided q) refl

  module _ (s : List Entry) where
    -- the replies to the position that an entry leads to are asked for, and are too many
    pub record IsAskedAt (earlier : List Entry) (e : Entry) (q : Position) : Type 0 where
      pub once : find_entry (plan_of earlier) e.position ≡ None
      pub undecided : decided e.position ≡ None
      pub leads : led_to barred e ≡ Some q
      pub long : TooLong q

    finds_after : (earlier : List Entry) (e : Entry) (o : Option Position) → led_to barred e ≡ o → find_entry (plan_of earlier) e.position ≡ None → decided e.position ≡ None
        → Finds (finding_after room a barred (plan_of s) e.rank o) (fault_after a barred (plan_of s) e.rank o) (IsAskedAt earlier e)
    finds_after earlier e None is once undecided = refl
    finds_after earlier e (Some q) is once undecided = weaker (finding_of e.rank q (look_at room a barred (plan_of s) q)) looked where
      looked : Finds (finding_of e.rank q (look_at room a barred (plan_of s) q)) (fault_by a barred (plan_of s) e.rank q (decided q)) (IsLongAt q)
      looked = finds_look (plan_of s) e.rank q

      weaker : (f : Finding) → Finds f (fault_by a barred (plan_of s) e.rank q (decided q)) (IsLongAt q) → Finds f (fault_by a barred (plan_of s) e.rank q (decided q)) (IsAskedAt earlier e)
      weaker finds.Good h = h
      weaker (finds.Faulty w) h = h
      weaker (finds.Crowded x) h = record { once = once; undecided = undecided; leads = is ∙ ap Some (sym h.0); long = subst TooLong (sym h.0) h.1 }

    finds_at : (earlier : List Entry) (e : Entry) → Finds (finding_at room a barred s earlier e) (fault_of a barred s earlier e) (IsAskedAt earlier e)
    unfolding finding_at fault_of
    finds_at earlier e =
        elim (find_entry (plan_of earlier) e.position) as (λ o. find_entry (plan_of earlier) e.position ≡ o
        → Finds (cond (is_some o) (finds.Faulty why.Twice) (cond (is_some (decided e.position)) (finds.Faulty why.Decided) (finding_after room a barred (plan_of s) e.rank (led_to barred e))))
        (cond (is_some o) (Some why.Twice) (cond (is_some (decided e.position)) (Some why.Decided) (fault_after a barred (plan_of s) e.rank (led_to barred e)))) (IsAskedAt earlier e)) [
          | Some d ↦ λ _. refl
          | None ↦ λ once. elim (decided e.position) as (λ o. decided e.position ≡ o
              → Finds (cond (is_some o) (finds.Faulty why.Decided) (finding_after room a barred (plan_of s) e.rank (led_to barred e)))
              (cond (is_some o) (Some why.Decided) (fault_after a barred (plan_of s) e.rank (led_to barred e))) (IsAskedAt earlier e)) [
                | Some x ↦ λ _. refl
                | None ↦ λ undecided. finds_after earlier e (led_to barred e) refl once undecided
              ] refl
        ] refl

    -- one more entry without a fault
    faultless_more : (base es : List Entry) (e : Entry) → AreFaultless a barred s base es → fault_of a barred s (base ++ es) e ≡ None → AreFaultless a barred s base (es ++ e ∷ [])
    faultless_more base [] e h one = (ap (λ l. fault_of a barred s l e) (sym (append-nil base)) ∙ one, tt)
    faultless_more base (d ∷ es) e h one = (h.0, faultless_more (base ++ d ∷ []) es e h.1 (ap (λ l. fault_of a barred s l e) (append_assoc base (d ∷ []) es) ∙ one))

    -- no entry among those without a fault has one
    faultless_at : (base es : List Entry) (e : Entry) (later : List Entry) → AreFaultless a barred s base (es ++ e ∷ later) → fault_of a barred s (base ++ es) e ≡ None
    faultless_at base [] e later h = ap (λ l. fault_of a barred s l e) (append-nil base) ∙ h.0
    faultless_at base (d ∷ es) e later h = ap (λ l. fault_of a barred s l e) (sym (append_assoc base (d ∷ []) es)) ∙ faultless_at (base ++ d ∷ []) es e later h.1

    -- what the answer at the entries says
    abbrev AtEntries : Option Checked → Type 0
    AtEntries None = AreFaultless a barred s [] s
    AtEntries (Some (checked.Accepted r)) = ⊥
    AtEntries (Some (checked.Refused number w)) = IsFirstFault a barred s number w
    AtEntries (Some (checked.Crowded q)) = (room < length (next barred q)) × IsFirstAsked a barred s q

    at_entry : (number : ℕ) (earlier : List Entry) (e : Entry) (later : List Entry) (f : Finding) (rest : Option Checked) → s ≡ earlier ++ e ∷ later → number ≡ length earlier + 1 → AreFaultless a barred s [] earlier
        → Finds f (fault_of a barred s earlier e) (IsAskedAt earlier e) → (fault_of a barred s earlier e ≡ None → AtEntries rest) → AtEntries (answer_or number f rest)
    at_entry number earlier e later finds.Good rest split counted good found more = more found
    at_entry number earlier e later (finds.Faulty w) rest split counted good found more =
        record { earlier = earlier; entry = e; later = later; split = split; counted = counted; good = good; faulty = found }
    at_entry number earlier e later (finds.Crowded q) rest split counted good found more = (
      found.long.1,
      record { earlier = earlier; entry = e; later = later; split = split; good = good; once = found.once; undecided = found.undecided; leads = found.leads; open_result = found.long.0 },
    )

    at_entries : (number : ℕ) (earlier es : List Entry) → s ≡ earlier ++ es → number ≡ length earlier + 1 → AreFaultless a barred s [] earlier → AtEntries (first_answer room a barred s number earlier es)
    at_entries number earlier [] split counted good = subst (λ (l : List Entry). AreFaultless a barred s [] l) (sym (split ∙ append-nil earlier)) good
    at_entries number earlier (e ∷ es) split counted good =
        at_entry number earlier e es (finding_at room a barred s earlier e) (first_answer room a barred s (number + 1) (earlier ++ e ∷ []) es) split counted good (finds_at earlier e)
        (λ none. at_entries (number + 1) (earlier ++ e ∷ []) es (split ∙ sym (append_assoc earlier (e ∷ []) es)) (omega (arith, counted, length-append earlier (e ∷ []))) (faultless_more [] earlier e good none))

-- ---- the root

abbrev first_of_root : Bool → Bool → Option Why
first_of_root ready within = cond (not ready) (Some why.Root) (cond (not within) (Some why.Deep) None)

unready_root : (ready within : Bool) → ready ≡ false → first_of_root ready within ≡ Some why.Root
unready_root ready within h = rw h refl

deep_root : (ready within : Bool) → ready ≡ true → within ≡ false → first_of_root ready within ≡ Some why.Deep
deep_root ready within h k = rw (h, k) refl

good_root : (ready within : Bool) → ready ≡ true → within ≡ true → first_of_root ready within ≡ None
good_root ready within h k = rw (h, k) refl

says_weaker : (look : Look) (ready : Bool) (rank : ℕ) (P Q : Type 0) → (P → Q) → Says look ready rank P → Says look ready rank Q
says_weaker (looks.Rank r) ready rank P Q f h = h
says_weaker looks.Lost ready rank P Q f h = h
says_weaker looks.Open ready rank P Q f h = h
says_weaker looks.Crowded ready rank P Q f h = f h

module _ (room : ℕ) (a : Color) (barred : List Position) (n : ℕ) (s : List Entry) (p : Position) where
  -- what the answer at the root says, where no entry has a fault
  abbrev AtRoot : Checked → Type 0
  AtRoot (checked.Accepted r) = (is_ready a barred (plan_of s) p ≡ true) × (r ≡ root_rank a barred (plan_of s) p) × (r ≤ n)
  AtRoot (checked.Refused number w) = (number ≡ 0) × (root_fault a barred n s p ≡ Some w)
  AtRoot (checked.Crowded q) = (q ≡ p) × (same_color p.side a ≡ false) × (decided p ≡ None) × (room < length (next barred p))

  abbrev LongRoot : Type 0
  LongRoot = (same_color p.side a ≡ false) × IsLong room a barred (plan_of s) p (decided p)

  at_root : (look : Look) → Says look (is_ready a barred (plan_of s) p) (root_rank a barred (plan_of s) p) LongRoot → AtRoot (root_answer n p look)
  unfolding root_fault
  at_root (looks.Rank r) h =
      elim (nat_le r n) as (λ v. nat_le r n ≡ v → AtRoot (cond v (checked.Accepted r) (checked.Refused 0 why.Deep))) [
        | true ↦ λ within. (h.0, h.1, leb-true r n within)
        | false ↦ λ deep. (refl, deep_root (is_ready a barred (plan_of s) p) (nat_le (root_rank a barred (plan_of s) p) n) h.0 (sym (ap (λ (k : ℕ). nat_le k n) h.1) ∙ deep))
      ] refl
  at_root looks.Lost h = (refl, unready_root (is_ready a barred (plan_of s) p) (nat_le (root_rank a barred (plan_of s) p) n) h)
  at_root looks.Open h = (refl, unready_root (is_ready a barred (plan_of s) p) (nat_le (root_rank a barred (plan_of s) p) n) h)
  at_root looks.Crowded h = (refl, h.0, h.1.0, h.1.1)

  root_says : Says (root_look room a barred (plan_of s) p) (is_ready a barred (plan_of s) p) (root_rank a barred (plan_of s) p) LongRoot
  root_says =
      elim (same_color p.side a) as (λ v. same_color p.side a ≡ v → Says (cond v (look_of (covered_rank a (plan_of s) p)) (look_at room a barred (plan_of s) p)) (cond v (is_covered a (plan_of s) p) (is_answered a barred (plan_of s) p)) (cond v (s_rank a (plan_of s) p) (q_rank a barred (plan_of s) p)) LongRoot) [
        | true ↦ λ own. subst (λ (o : Option ℕ). Says (look_of o) (is_covered a (plan_of s) p) (s_rank a (plan_of s) p) LongRoot) (sym (covered-rank a (plan_of s) p)) (says_of (is_covered a (plan_of s) p) (s_rank a (plan_of s) p) LongRoot)
        | false ↦ λ other. says_weaker (look_at room a barred (plan_of s) p) (is_answered a barred (plan_of s) p) (q_rank a barred (plan_of s) p) (IsLong room a barred (plan_of s) p (decided p)) LongRoot (λ long. (other, long)) (says-at room a barred (plan_of s) p)
      ] refl

  -- ---- the whole answer

  -- what an answer says, by its kind
  pub record Facts (answer : Checked) : Type 0 where
    pub accepted : IfAccepted answer (λ rank. AcceptsEntries a barred n s p × (rank ≡ root_rank a barred (plan_of s) p))
    pub refused : IfRefused answer (λ number w. IsFirstFault a barred s number w ⊎ IsRootFault a barred n s p number w)
    pub crowded : IfCrowded answer (λ q. (room < length (next barred q)) × (IsFirstAsked a barred s q ⊎ IsRootAsked a barred s p q))

  facts_root : (answer : Checked) → AreFaultless a barred s [] s → AtRoot answer → Facts answer
  facts_root (checked.Accepted r) good h =
      let all = all_good a barred s [] s good in
      record { accepted = (record { plain = record { entries = all.0; root = h.0; deep = omega (arith, h.1, h.2) }; marked = all.1 }, h.1); refused = tt; crowded = tt }
  facts_root (checked.Refused number w) good h = record { accepted = tt; refused = inr (record { zero = h.0; good = good; faulty = h.1 }); crowded = tt }
  facts_root (checked.Crowded q) good h = record {
    accepted = tt;
    refused = tt;
    crowded = (subst (λ (x : Position). room < length (next barred x)) (sym h.0) h.3, inr (record { root = h.0; good = good; side = λ own. both_ways _ h.1 ((same_color-Decides p.side a).1 own); undecided = h.2 }));
  }

  facts_with : (o : Option Checked) (root : Checked) → AtEntries room a barred s o → AtRoot root → Facts (answer_with root o)
  facts_with None root good h = facts_root root good h
  facts_with (Some (checked.Accepted r)) root wrong h = absurd wrong
  facts_with (Some (checked.Refused number w)) root first h = record { accepted = tt; refused = inl first; crowded = tt }
  facts_with (Some (checked.Crowded q)) root first h = record { accepted = tt; refused = tt; crowded = (first.0, inl first.1) }

  facts : Facts (checked_of room a barred n s p)
  unfolding checked_of
  facts =
      facts_with (first_answer room a barred s 1 [] s) (root_answer n p (root_look room a barred (plan_of s) p))
      (at_entries room a barred s 1 [] s refl refl tt) (at_root (root_look room a barred (plan_of s) p) root_says)

  faulty_none : {w : Why} {o : Option Why} → o ≡ None → o ≡ Some w → ⊥
  faulty_none none some = let wrong : true ≡ false = cc in true≢false wrong

  root_none : AcceptsEntries a barred n s p → root_fault a barred n s p ≡ None
  unfolding root_fault
  root_none good = good_root (is_ready a barred (plan_of s) p) (nat_le (root_rank a barred (plan_of s) p) n) good.plain.root (le-leb _ n good.plain.deep)

  complete : (answer : Checked) → Facts answer → HasRoom a barred room s p → AcceptsEntries a barred n s p → answer ≡ checked.Accepted (root_rank a barred (plan_of s) p)
  complete (checked.Accepted r) h fits good = ap checked.Accepted h.accepted.1
  complete (checked.Refused number w) h fits good = absurd (⊎_elim entry root h.refused) where
    entry : IsFirstFault a barred s number w → ⊥
    entry first =
        let none = all_faultless a barred s [] s good.plain.entries good.marked in
        faulty_none (faultless_at room a barred s [] first.earlier first.entry first.later (subst (λ (l : List Entry). AreFaultless a barred s [] l) first.split none)) first.faulty

    root : IsRootFault a barred n s p number w → ⊥
    root last = faulty_none (root_none good) last.faulty
  complete (checked.Crowded q) h fits good = absurd (⊎_elim entry root h.crowded.1) where
    entry : IsFirstAsked a barred s q → ⊥
    entry first =
        let there : Contains s first.entry = subst (λ (l : List Entry). Contains l first.entry) (sym first.split) (Contains-append_right first.earlier (first.entry ∷ first.later) first.entry (0, omega arith, refl)) in
        let short = fits q (asked_of first.entry q there first.leads first.open_result) in omega (arith, h.crowded.0)

    root : IsRootAsked a barred s p q → ⊥
    root last = let short = fits p (asked_root last.side last.undecided) in let same : length (next barred q) ≡ length (next barred p) = ap (λ (x : Position). length (next barred x)) last.root in omega (arith, h.crowded.0)

  own : (answer : Checked) → Facts answer → (r : ℕ) → IsRank a barred p r → r ≤ n → s ≡ map entry_with_marks (strategy_of a barred r p) → HasRoom a barred room s p → answer ≡ checked.Accepted r
  own answer h r exact within is fits =
      let plan : plan_of s ≡ strategy_of a barred r p = ap plan_of is ∙ planned-written (strategy_of a barred r p) in
      let rank : root_rank a barred (plan_of s) p ≡ r = ap (λ (l : List Planned). root_rank a barred l p) plan ∙ made-ranked a barred p r exact in
      let accepts : Accepts a barred r (plan_of s) p = subst (λ (l : List Planned). Accepts a barred r l p) (sym plan) (made-accepted a barred p r exact) in
      let marked : list_all has_right_marks s ≡ true = ap (list_all has_right_marks) is ∙ written-marked (strategy_of a barred r p) in
      complete answer h fits (record { plain = record { entries = accepts.entries; root = accepts.root; deep = omega (arith, accepts.deep) }; marked = marked }) ∙ ap checked.Accepted rank

  pub answer_is_checked : (answer : Checked) → answer ≡ checked_of room a barred n s p → IsChecked a barred n room s p answer
  answer_is_checked answer is =
      let all : Facts answer = subst Facts (sym is) facts in
      record { accepted = all.accepted; refused = all.refused; crowded = all.crowded; complete = complete answer all; own = own answer all }

pub some_same : {p q : Position} → ◌≡◌ {A = Option Position} (Some p) (Some q) → p ≡ q
some_same e = cc

-- a strategy that is accepted wins
pub accepted_wins : (a : Color) (h : List Position) (n : ℕ) (s : List Entry) (p : Position) (answer : Checked) → present h ≡ Some p → IfAccepted answer (λ rank. AcceptsEntries a (barred_by h) n s p × (rank ≡ root_rank a (barred_by h) (plan_of s) p))
    → IfAccepted answer (λ rank. IsWonBy a h s rank)
accepted_wins a h n s p (checked.Accepted r) now x =
    let good : Accepts a (barred_by h) r (plan_of s) p = record { entries = x.0.plain.entries; root = x.0.plain.root; deep = omega (arith, x.1) } in
    record {
      plays = accepted-plays a h p r (plan_of s) now good;
      won = λ q is. let same : p ≡ q = some_same (sym now ∙ is) in subst (λ (x : Position). IsTrue (wins a (barred_by h) r x)) same (accepted-wins a (barred_by h) p r (plan_of s) good);
    }
accepted_wins a h n s p (checked.Refused number w) now x = tt
accepted_wins a h n s p (checked.Crowded q) now x = tt
