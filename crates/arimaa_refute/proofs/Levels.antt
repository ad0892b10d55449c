-- Escapes are made level by level.
use Rattle.std.proofs.Common.{◌≡◌, ℕ, zero, suc, ◌+◌, ◌-◌, ◌<◌, ◌≤◌, List, [], ◌∷◌, ◌++◌, length, map, take, drop, get_or, Option, None, Some, true, false, cond, inl, inr, refl, sym, ◌∙◌, ap, subst, arith, append_assoc, length-append}
use Rattle.std.specs.List.{AllByRecursion, flat_map}
use Rattle.std.proofs.Math.Seq.{drop-append_seam, take-append_seam}
use Rattle.std.proofs.lemmas.List.{append-nil, take-append-drop, drop_more, drop_all}
use Rattle.arimaa_board.specs.declared.position.Position.{Position}
use Rattle.arimaa_model.specs.DecidedPositions.{decided}
use Rattle.arimaa_model.specs.Members.{Stands}
use Rattle.arimaa_model.specs.Results.{stands_in, first_occurrences, result_of, next}
use Rattle.arimaa_model.specs.Strategies.{open_after}
use Rattle.arimaa_model.proofs.Lemmas.Members.{In, In-flat_map}
use Rattle.arimaa_model.proofs.Lemmas.Meeting.{ready-wants}
use Rattle.arimaa_model.proofs.Lemmas.Positions.{In-stands}
use Rattle.arimaa_model.proofs.Lemmas.Reaching.{first_occurrences-append}
use Rattle.arimaa_forced.specs.Needs.InTree.{later as tree-later}
use Rattle.arimaa_forced.specs.Search.{crowd, largest}
use Rattle.arimaa_forced.proofs.Lemmas.Deeper.{crowd-deeper}
use Rattle.arimaa_strategy.proofs.Lemmas.CheckLaws.{some_same}
use Rattle.arimaa_refute.specs.declared.escape.Escape.{Escape}
use Rattle.arimaa_refute.specs.OwnEscapes.{IsUnwon, first_evasion, escape_at, after_escape, fresh, escapes_from}
use Rattle.arimaa_refute.specs.Refutations.{Terms, IsBelow, WantsEscape, met_after}
use Rattle.arimaa_refute.proofs.OwnEscapesHold.{evasion, In-fresh, after-unwon}

-- ---- lists

pub all-from : {X : Type 0} (P : X → Type 0) (xs : List X) → ((x : X) → In x xs → P x) → AllByRecursion P xs
all-from P [] each = tt
all-from P (x ∷ xs) each = (each x (inl refl), all-from P xs (λ y i. each y (inr i)))

all-at : {X : Type 0} (P : X → Type 0) (x : X) (xs : List X) → AllByRecursion P xs → In x xs → P x
all-at P x [] all i = absurd i
all-at P x (y ∷ xs) all (inl e) = subst P (sym e) all.0
all-at P x (y ∷ xs) all (inr i) = all-at P x xs all.1 i

-- first occurrences are the list and then what is fresh
pub first-fresh : (qs ps : List Position) → first_occurrences qs ps ≡ qs ++ fresh qs ps
first-fresh qs [] = sym (append-nil qs)
first-fresh qs (p ∷ ps) =
    elim (stands_in qs p) as (λ v. first_occurrences (cond v qs (qs ++ p ∷ [])) ps ≡ qs ++ cond v (fresh qs ps) (p ∷ fresh (qs ++ p ∷ []) ps)) [
      | true ↦ first-fresh qs ps
      | false ↦ first-fresh (qs ++ p ∷ []) ps ∙ append_assoc qs (p ∷ []) (fresh (qs ++ p ∷ []) ps)
    ]

-- ---- one level

module _ {X : Type 0} (f : Position → X) (g : Position → List Position) (old start : List Position) (written : List X) where
  -- the positions of the old queue from a number on are left
  pub record Midst (number : ℕ) (queue : List Position) (more : List X) : Type 0 where
    pub rest : List Position
    pub begins : queue ≡ old ++ rest
    pub done : more ++ map f (drop number old) ≡ written ++ map f start
    pub met : first_occurrences queue (flat_map g (drop number old)) ≡ first_occurrences old (flat_map g start)

  pub midst-start : (number : ℕ) → drop number old ≡ start → Midst number old written
  midst-start number is = record {
    rest = [];
    begins = sym (append-nil old);
    done = ap (λ l. written ++ map f l) is;
    met = ap (λ l. first_occurrences old (flat_map g l)) is;
  }

  midst-here : (number : ℕ) (queue : List Position) (more : List X) (q : Position) → Midst number queue more → number < length old → q ≡ get_or queue number q → drop number old ≡ q ∷ drop (number + 1) old
  midst-here number queue more q h inside here =
      let same : q ≡ get_or old number q = here ∙ (ap (λ l. get_or l number q) h.begins ∙ front old h.rest number inside) in
      drop_more old number q inside ∙ ap (λ x. x ∷ drop (number + 1) old) (sym same)
    where
      front : (xs ys : List Position) (i : ℕ) → i < length xs → get_or (xs ++ ys) i q ≡ get_or xs i q
      front [] ys i less = absurd (omega arith)
      front (x ∷ xs) ys zero less = refl
      front (x ∷ xs) ys (suc i) less = front xs ys i (omega arith)

  pub midst-more : (number : ℕ) (queue next : List Position) (more after : List X) (q : Position) → Midst number queue more → number < length old → q ≡ get_or queue number q → next ≡ first_occurrences queue (g q) → after ≡ more ++ f q ∷ [] → Midst (number + 1) next after
  midst-more number queue next more after q h inside here met_is after_is =
      let left = midst-here number queue more q h inside here in
      record {
        rest = h.rest ++ fresh queue (g q);
        begins = met_is ∙ (first-fresh queue (g q) ∙ (ap (λ l. l ++ fresh queue (g q)) h.begins ∙ append_assoc old h.rest (fresh queue (g q))));
        done = ap (λ l. l ++ map f (drop (number + 1) old)) after_is ∙ (append_assoc more (f q ∷ []) (map f (drop (number + 1) old)) ∙ (ap (λ l. more ++ map f l) (sym left) ∙ h.done));
        met = ap (λ l. first_occurrences l (flat_map g (drop (number + 1) old))) met_is
            ∙ (sym (first_occurrences-append queue (g q) (flat_map g (drop (number + 1) old))) ∙ (ap (λ l. first_occurrences queue (flat_map g l)) (sym left) ∙ h.met));
      }

  pub midst-wants : (P : Position → Type 0) (number : ℕ) (queue : List Position) (more : List X) (q : Position) → Midst number queue more → number < length old → q ≡ get_or queue number q → AllByRecursion P (drop number old) → P q × AllByRecursion P (drop (number + 1) old)
  midst-wants P number queue more q h inside here wants = subst (λ l. AllByRecursion P l) (midst-here number queue more q h inside here) wants

  pub midst-done : (number : ℕ) (queue : List Position) (more : List X) → Midst number queue more → length old ≤ number → more ≡ written ++ map f start
  midst-done number queue more h past = sym (append-nil more) ∙ (ap (λ l. more ++ map f l) (sym (drop_all number old past)) ∙ h.done)

  pub midst-met : (number : ℕ) (queue : List Position) (more : List X) → Midst number queue more → length old ≤ number → queue ≡ first_occurrences old (flat_map g start)
  midst-met number queue more h past = ap (λ l. first_occurrences queue (flat_map g l)) (sym (drop_all number old past)) ∙ h.met

-- ---- questions of the tree

module _ (t : Terms) where
  -- the next positions of one that wants an escape are asked about one turn later
  pub below-next : (k : ℕ) (p q : Position) → WantsEscape t (k + 1) p → Stands (next t.barred p) q → IsBelow t k q
  below-next k p q w stands = tree-later p q (k + 1) k w.below w.unwon.undecided stands (omega arith)

  pub unwon-suc : (k : ℕ) (p : Position) → WantsEscape t (k + 1) p → IsUnwon t.attacker t.barred (suc k) p
  unwon-suc k p w = let one : k + 1 ≡ suc k = omega arith in subst (λ m. IsUnwon t.attacker t.barred m p) one w.unwon

  -- what an escape leads to is asked about, too
  pub evasion-below : (k : ℕ) (p r : Position) → WantsEscape t (k + 1) p → result_of p (first_evasion t.attacker t.barred k p) ≡ Some r → IsBelow t k r
  evasion-below k p r w leads =
      let e = evasion t.attacker t.barred k p (unwon-suc k p w) in
      let same : e.0 ≡ r = some_same (sym e.1.turn ∙ leads) in
      below-next k p r w (subst (λ (x : Position). Stands (next t.barred p) x) same (In-stands (next t.barred p) e.0 e.1.inside))

  -- too many next positions are a crowd
  pub long-crowd : (k : ℕ) (p : Position) → decided p ≡ None → 1 ≤ k → t.room < length (next t.barred p) → t.room < crowd t.barred k p
  long-crowd k p undecided some long =
      let deep : suc (k - 1) ≡ k = omega arith in
      let sum : crowd t.barred k p ≡ length (next t.barred p) + largest (crowd t.barred (k - 1)) (next t.barred p) = ap (λ m. crowd t.barred m p) (sym deep) ∙ crowd-deeper t.barred p (k - 1) undecided in
      omega arith

  -- what is met after an escape wants one two turns later
  after-wants : (k : ℕ) (p q : Position) → WantsEscape t (suc (suc k)) p → In q (after_escape t.attacker t.barred (suc k) p) → WantsEscape t k q
  after-wants k p q w i =
      let e = evasion t.attacker t.barred (suc k) p w.unwon in
      let there = subst (λ (o : Option Position). In q (open_after t.barred o)) e.1.turn i in
      let ready = ready-wants t.barred e.0 q there in
      let reached = tree-later p e.0 (suc (suc k)) (suc k) w.below w.unwon.undecided (In-stands (next t.barred p) e.0 e.1.inside) (omega arith) in
      record {
        unwon = after-unwon t.attacker t.barred k p q w.unwon i;
        below = tree-later e.0 q (suc k) k reached ready.goes (In-stands (next t.barred e.0) q ready.inside) (omega arith);
      }

  -- ---- all levels

  module _ (own : List Escape) where
    abbrev escape : ℕ → Position → Escape
    escape k = escape_at t.attacker t.barred k

    -- the escapes up to some level are written, and the positions of the next level stand last in the queue
    pub record Making (turns start : ℕ) (queue : List Position) (c : List Escape) : Type 0 where
      pub inside : start ≤ length queue
      pub whole : c ++ escapes_from t.attacker t.barred turns (take start queue) (drop start queue) ≡ own
      pub wants : AllByRecursion (WantsEscape t turns) (drop start queue)

    pub making-end : (start : ℕ) (queue : List Position) (c : List Escape) (turns : ℕ) → Making turns start queue c → turns ≤ 0 → c ≡ own
    making-end start queue c zero h none = sym (append-nil c) ∙ h.whole
    making-end start queue c (suc k) h none = absurd (omega arith)

    flat-none : (k : ℕ) (qs : List Position) → k ≤ 1 → flat_map (met_after t.attacker t.barred k) qs ≡ []
    flat-none zero [] few = refl
    flat-none zero (q ∷ qs) few = flat-none zero qs few
    flat-none (suc zero) [] few = refl
    flat-none (suc zero) (q ∷ qs) few = flat-none (suc zero) qs few
    flat-none (suc (suc k)) qs few = absurd (omega arith)

    flat-after : (k : ℕ) (qs : List Position) → flat_map (met_after t.attacker t.barred (suc (suc k))) qs ≡ flat_map (after_escape t.attacker t.barred (suc (suc k))) qs
    flat-after k [] = refl
    flat-after k (q ∷ qs) = ap (λ l. after_escape t.attacker t.barred (suc (suc k)) q ++ l) (flat-after k qs)

    -- one level more is written
    level-escapes : (k : ℕ) (met new : List Position) → escapes_from t.attacker t.barred (suc k) met new ≡ map (escape k) new ++ escapes_from t.attacker t.barred (k - 1) (met ++ new) (fresh (met ++ new) (flat_map (met_after t.attacker t.barred k) new))
    level-escapes zero met new = let none : 0 - 1 ≡ 0 = omega arith in sym (append-nil (map (escape 0) new)) ∙ ap (λ m. map (escape 0) new ++ escapes_from t.attacker t.barred m (met ++ new) (fresh (met ++ new) (flat_map (met_after t.attacker t.barred 0) new))) (sym none)
    level-escapes (suc zero) met new = let none : 1 - 1 ≡ 0 = omega arith in ap (λ m. map (escape 1) new ++ escapes_from t.attacker t.barred m (met ++ new) (fresh (met ++ new) (flat_map (met_after t.attacker t.barred 1) new))) (sym none)
    level-escapes (suc (suc k)) met new =
        let less : suc (suc k) - 1 ≡ suc k = omega arith in
        let shape : (m : ℕ) (l : List Position) → List Escape = λ m l. map (escape (suc (suc k))) new ++ escapes_from t.attacker t.barred m (met ++ new) (fresh (met ++ new) l) in
        λ i. shape (sym less i) (sym (flat-after k new) i)

    level-wants : (k : ℕ) (met new : List Position) → AllByRecursion (WantsEscape t (suc k)) new → AllByRecursion (WantsEscape t (k - 1)) (fresh met (flat_map (met_after t.attacker t.barred k) new))
    level-wants zero met new wants = subst (λ l. AllByRecursion (WantsEscape t (0 - 1)) (fresh met l)) (sym (flat-none 0 new (omega arith))) tt
    level-wants (suc zero) met new wants = subst (λ l. AllByRecursion (WantsEscape t (1 - 1)) (fresh met l)) (sym (flat-none 1 new (omega arith))) tt
    level-wants (suc (suc k)) met new wants =
        let less : suc k ≡ suc (suc k) - 1 = omega arith in
        all-from (WantsEscape t (suc (suc k) - 1)) (fresh met (flat_map (met_after t.attacker t.barred (suc (suc k))) new))
        (λ q i.
        let from = In-flat_map (met_after t.attacker t.barred (suc (suc k))) q new (In-fresh q met (flat_map (met_after t.attacker t.barred (suc (suc k))) new) i) in
        subst (λ m. WantsEscape t m q) less (after-wants (suc k) from.0 q (all-at (WantsEscape t (suc (suc (suc k)))) from.0 new wants from.1) from.2))

    level-made : (k start : ℕ) (queue nexts : List Position) (c more : List Escape) → Making (suc k) start queue c → more ≡ c ++ map (escape k) (drop start queue) → nexts ≡ first_occurrences queue (flat_map (met_after t.attacker t.barred k) (drop start queue)) → Making (k - 1) (length queue) nexts more
    level-made k start queue nexts c more h more_is next_is =
        let met : List Position = take start queue in
        let new : List Position = drop start queue in
        let later : List Position = fresh queue (flat_map (met_after t.attacker t.barred k) new) in
        let joined : met ++ new ≡ queue = take-append-drop start queue in
        let next_split : nexts ≡ queue ++ later = next_is ∙ first-fresh queue (flat_map (met_after t.attacker t.barred k) new) in
        let front : take (length queue) nexts ≡ queue = ap (take (length queue)) next_split ∙ take-append_seam queue later in
        let back : drop (length queue) nexts ≡ later = ap (drop (length queue)) next_split ∙ drop-append_seam queue later in
        let rest : List Position → List Escape = λ l. escapes_from t.attacker t.barred (k - 1) l (fresh l (flat_map (met_after t.attacker t.barred k) new)) in
        record {
          inside = omega (arith, ap length next_split, length-append queue later);
          whole =
              (λ i. more_is i ++ escapes_from t.attacker t.barred (k - 1) (front i) (back i))
              ∙ (append_assoc c (map (escape k) new) (rest queue)
              ∙ (ap (λ l. c ++ (map (escape k) new ++ rest l)) (sym joined) ∙ (ap (λ l. c ++ l) (sym (level-escapes k met new)) ∙ h.whole)));
          wants = subst (λ l. AllByRecursion (WantsEscape t (k - 1)) l) (sym back) (level-wants k queue new h.wants);
        }

    -- by the number of turns
    pub making-more : (turns start : ℕ) (queue nexts : List Position) (c more : List Escape) → Making turns start queue c → 0 < turns → more ≡ c ++ map (escape (turns - 1)) (drop start queue)
        → nexts ≡ first_occurrences queue (flat_map (met_after t.attacker t.barred (turns - 1)) (drop start queue)) → Making (turns - 2) (length queue) nexts more
    making-more zero start queue nexts c more h some more_is next_is = absurd (omega arith)
    making-more (suc k) start queue nexts c more h some more_is next_is =
        let less : suc k - 1 ≡ k = omega arith in
        let two : k - 1 ≡ suc k - 2 = omega arith in
        subst (λ m. Making m (length queue) nexts more) two
        (level-made k start queue nexts c more h (more_is ∙ ap (λ m. c ++ map (escape m) (drop start queue)) less) (next_is ∙ ap (λ m. first_occurrences queue (flat_map (met_after t.attacker t.barred m) (drop start queue))) less))

    pub making-wants : (turns start : ℕ) (queue : List Position) (c : List Escape) → Making turns start queue c → 0 < turns → AllByRecursion (WantsEscape t ((turns - 1) + 1)) (drop start queue)
    making-wants turns start queue c h some = let same : turns ≡ (turns - 1) + 1 = omega arith in subst (λ m. AllByRecursion (WantsEscape t m) (drop start queue)) same h.wants
