-- The place of the first fault: the steps before it can be cut or opened, and with it they cannot, or it is a fifth.
use Rattle.std.proofs.Common.{◌≡◌, ℕ, ◌+◌, ◌≤◌, List, [], ◌∷◌, ◌++◌, length, reverse, Option, None, Some, Bool, true, false, cond, refl, sym, ◌∙◌, ap, subst, ◌⊎◌, inl, inr, ⊎_elim, append_assoc, arith}
use Rattle.std.specs.Prelude.{◌&&◌, ◌||◌, nat_le}
use Rattle.std.specs.Option.{option_or}
use Rattle.std.proofs.lemmas.List.{reverse-append, reverse-reverse, length-reverse, length-append}
use Rattle.std.proofs.lemmas.Bool.{or_cases, or_left, and_parts, leb-true, both_ways}
use Rattle.arimaa_board.specs.declared.piece.Color.{Color}
use Rattle.arimaa_board.specs.declared.board.Board.{Board}
use Rattle.arimaa_board.specs.declared.position.Step.{Step}
use Rattle.arimaa_model.specs.declared.fault.StepFault.{StepFault}
use Rattle.arimaa_model.specs.declared.fault.StepFault.TheVariants as fault
use Rattle.arimaa_model.specs.Moves.{after, is_single, is_half, is_push, is_pull}
use Rattle.arimaa_model.specs.Turns.{after_all, has_cutting, has_open_cutting, may_grow}
use Rattle.arimaa_model.specs.Backward.{after_back, cuts_back, opens_back, grows_back}
use Rattle.arimaa_model.specs.Faults.{ends_push, ends_pull, rule_of, step_fault, or_later, first_fault_after, first_fault}
use Rattle.arimaa_model.specs.FirstFaults.{IsFirstStuck}
use Rattle.std.proofs.Math.Bool.{and-true, and-false, or-false}
use Rattle.arimaa_model.proofs.BackwardLaws.{begins_back}
use Rattle.arimaa_model.proofs.Lemmas.BothWays.{has_cutting-cuts_back}
use Rattle.arimaa_model.proofs.Lemmas.FaultLaws.{after_back-after_all, last_fault, faults-last, step-few}

-- a test that both parts share
pub spread : (a x q y h : Bool) → (a && (x && h) || q && (y && h)) ≡ ((a && x || q && y) && h)
spread a x q y true = rw (and-true x, and-true y, and-true (a && x || q && y)) refl
spread a x q y false = rw (and-false x, and-false y, and-false a, and-false q, and-false (a && x || q && y)) refl

no_more : (a h q : Bool) → (a && h || q && false) ≡ (a && h)
no_more a h true = or-false (a && h)
no_more a h false = or-false (a && h)

-- steps can be opened where all but the last can be cut, and the last begins a push
opens-last : (side : Color) (c : Board) (ys : List Step) (s : Step) → has_open_cutting c side (ys ++ s ∷ []) ≡ (has_cutting c side ys && is_half (after_all c ys) side s)
opens-last side c [] s = refl
opens-last side c (y ∷ []) s = no_more (is_single c side y) (is_half (after c y) side s) (is_push c side y s || is_pull c side y s)
opens-last side c (y ∷ z ∷ ys) s =
    (λ i. is_single c side y && opens-last side (after c y) (z ∷ ys) s i || (is_push c side y z || is_pull c side y z) && opens-last side (after (after c y) z) ys s i)
    ∙ spread (is_single c side y) (has_cutting (after c y) side (z ∷ ys)) (is_push c side y z || is_pull c side y z) (has_cutting (after (after c y) z) side ys) (is_half (after_all c (y ∷ z ∷ ys)) side s)

module _ (b : Board) (side : Color) where
  cuts-same : (back : List Step) → has_cutting b side (reverse back) ≡ cuts_back b side back
  cuts-same back = sym (has_cutting-cuts_back b side (reverse back)) ∙ ap (cuts_back b side) (reverse-reverse back)

  pub after-same : (back : List Step) → after_all b (reverse back) ≡ after_back b back
  after-same back = sym (after_back-after_all b (reverse back)) ∙ ap (after_back b) (reverse-reverse back)

  opens-same : (back : List Step) → has_open_cutting b side (reverse back) ≡ opens_back b side back
  opens-same [] = refl
  opens-same (s ∷ before) =
      ap (has_open_cutting b side) (reverse-append (s ∷ []) before)
      ∙ (opens-last side b (reverse before) s ∙ λ i. cuts-same before i && is_half (after-same before i) side s)

  -- whether steps can be cut or opened, read forward and backward
  pub grows-same : (back : List Step) → may_grow b side (reverse back) ≡ grows_back b side back
  grows-same back = λ i. cuts-same back i || opens-same back i

  pub grows-before : (s : Step) (before : List Step) → grows_back b side (s ∷ before) ≡ true → grows_back b side before ≡ true
  grows-before s before h =
      ⊎_elim (λ cut. begins_back b side s before cut) (λ opens. or_left (cuts_back b side before) (opens_back b side before) (and_parts (cuts_back b side before) (is_half (after_back b before) side s) opens).0) (or_cases (cuts_back b side (s ∷ before)) (opens_back b side (s ∷ before)) h)

  pub grows-rest : (front back : List Step) → grows_back b side (front ++ back) ≡ true → grows_back b side back ≡ true
  grows-rest [] back h = h
  grows-rest (s ∷ front) back h = grows-rest front back (grows-before s (front ++ back) h)

  abbrev rule : List Step → Step → StepFault
  rule back s = rule_of (after_back b back) side (cuts_back b side back) (ends_push b side back s) (ends_pull b side back s) s

  step-none : (back : List Step) (s : Step) → step_fault b side back s ≡ None → grows_back b side (s ∷ back) ≡ true
  unfolding step_fault
  step-none back s none = by_tests (nat_le 4 (length back)) (grows_back b side (s ∷ back)) none where
    by_tests : (u v : Bool) → cond u (Some fault.Fifth) (cond v None (Some (rule back s))) ≡ None → v ≡ true
    by_tests true v h = absurd (cc)
    by_tests false true h = refl
    by_tests false false h = absurd (cc)

  step-some : (back : List Step) (s : Step) (e : StepFault) → step_fault b side back s ≡ Some e → (4 ≤ length back) ⊎ (grows_back b side (s ∷ back) ≡ false)
  unfolding step_fault
  step-some back s e some = by_tests (nat_le 4 (length back)) (grows_back b side (s ∷ back)) refl refl some where
    by_tests : (u v : Bool) → nat_le 4 (length back) ≡ u → grows_back b side (s ∷ back) ≡ v → cond u (Some fault.Fifth) (cond v None (Some (rule back s))) ≡ Some e → (4 ≤ length back) ⊎ (grows_back b side (s ∷ back) ≡ false)
    by_tests true v long grows h = inl (leb-true 4 (length back) long)
    by_tests false true long grows h = absurd (cc)
    by_tests false false long grows h = inr grows

  by-last : (s : Step) (before : List Step) → first_fault b side (reverse (s ∷ before)) ≡ option_or (first_fault b side (reverse before)) (last_fault b side before s)
  by-last s before =
      ap (first_fault b side) (reverse-append (s ∷ []) before)
      ∙ (faults-last b side (reverse before) s ∙ ap (λ l. option_or (first_fault b side (reverse before)) (last_fault b side l s)) (reverse-reverse before))

  -- steps without a fault are at most four, and can be cut or opened
  record Fine (back : List Step) : Type 0 where
    few : length back ≤ 4
    grows : grows_back b side back ≡ true

  last-none : (o : Option StepFault) (place : ℕ) → or_later o place None ≡ None → o ≡ None
  last-none None place h = refl
  last-none (Some e) place h = absurd (cc)

  fine-when : (back : List Step) → first_fault b side (reverse back) ≡ None → Fine back
  fine-when [] none = record { few = omega arith; grows = refl }
  fine-when (s ∷ before) none = by_first (first_fault b side (reverse before)) (sym (by-last s before) ∙ none) where
    by_first : (o : Option (ℕ × StepFault)) → option_or o (last_fault b side before s) ≡ None → Fine (s ∷ before)
    by_first (Some g) h = absurd (cc)
    by_first None h =
        let stops = last-none (step_fault b side before s) (length before + 1) h in
        let small = step-few b side before s stops in
        record { few = omega arith; grows = step-none before s stops }

  found-last : (o : Option StepFault) (place k : ℕ) (f : StepFault) → or_later o place None ≡ Some (k, f) → (o ≡ Some f) × (k ≡ place)
  found-last None place k f h = absurd (cc)
  found-last (Some e) place k f h =
      let pair : (place, e) ≡ (k, f) = cc in
      (ap (λ (z : ℕ × StepFault). Some z.1) pair, ap (λ (z : ℕ × StepFault). z.0) (sym pair))

  stuck-at : (back : List Step) (k : ℕ) (f : StepFault) → first_fault b side (reverse back) ≡ Some (k, f) → IsFirstStuck b side (reverse back) k
  unfolding first_fault_after
  stuck-at [] k f h = absurd (cc)
  stuck-at (s ∷ before) k f h = by_first (λ h2. stuck-at before k f h2) (first_fault b side (reverse before)) refl (sym (by-last s before) ∙ h) where
    turned : reverse (s ∷ before) ≡ reverse before ++ s ∷ []
    turned = reverse-append (s ∷ []) before

    by_first : (first_fault b side (reverse before) ≡ Some (k, f) → IsFirstStuck b side (reverse before) k) → (o : Option (ℕ × StepFault)) → first_fault b side (reverse before) ≡ o → option_or o (last_fault b side before s) ≡ Some (k, f) → IsFirstStuck b side (reverse (s ∷ before)) k
    by_first deeper (Some g) is e =
        let deep = deeper (is ∙ e) in
        record {
          before = deep.before;
          step = deep.step;
          later = deep.later ++ s ∷ [];
          split = turned ∙ (ap (λ l. l ++ s ∷ []) deep.split ∙ append_assoc deep.before (deep.step ∷ deep.later) (s ∷ []));
          place = deep.place;
          fine = deep.fine;
          stuck = deep.stuck;
        }
    by_first deeper None is e =
        let last = found-last (step_fault b side before s) (length before + 1) k f e in
        let earlier : Fine before = fine-when before is in
        let long : length (reverse before) ≡ length before = length-reverse before in
        record {
          before = reverse before;
          step = s;
          later = [];
          split = turned;
          place = last.1 ∙ ap (λ (n : ℕ). n + 1) (sym long);
          fine = grows-same before ∙ earlier.grows;
          stuck = ⊎_elim
              (λ (many : 4 ≤ length before). let most = earlier.few in inl (omega arith))
              (λ stops. inr (λ grows. both_ways _ stops (sym (grows-same (s ∷ before)) ∙ (ap (may_grow b side) turned ∙ grows))))
              (step-some before s f last.0);
        }

  -- the first fault is at the first step that is stuck
  pub first-place : (steps : List Step) (k : ℕ) (f : StepFault) → first_fault b side steps ≡ Some (k, f) → IsFirstStuck b side steps k
  first-place steps k f h =
      subst (λ (l : List Step). IsFirstStuck b side l k) (reverse-reverse steps) (stuck-at (reverse steps) k f (ap (first_fault b side) (reverse-reverse steps) ∙ h))

  -- no step has a fault where there are at most four, and they can be cut or opened
  pub fault-free : (steps : List Step) → first_fault b side steps ≡ None → (length steps ≤ 4) × (may_grow b side steps ≡ true)
  fault-free steps none =
      let fine = fine-when (reverse steps) (ap (first_fault b side) (reverse-reverse steps) ∙ none) in
      let few = fine.few in
      let long : length (reverse steps) ≡ length steps = length-reverse steps in
      (omega arith, sym (ap (may_grow b side) (reverse-reverse steps)) ∙ (grows-same (reverse steps) ∙ fine.grows))

  grows-beginning : (xs zs : List Step) → may_grow b side (xs ++ zs) ≡ true → may_grow b side xs ≡ true
  grows-beginning xs zs h =
      let whole : grows_back b side (reverse zs ++ reverse xs) ≡ true =
      ap (grows_back b side) (sym (reverse-append xs zs)) ∙ (sym (grows-same (reverse (xs ++ zs))) ∙ (ap (may_grow b side) (reverse-reverse (xs ++ zs)) ∙ h)) in
      sym (ap (may_grow b side) (reverse-reverse xs)) ∙ (grows-same (reverse xs) ∙ grows-rest (reverse zs) (reverse xs) whole)

  pub free-of-fault : (steps : List Step) → length steps ≤ 4 → may_grow b side steps ≡ true → first_fault b side steps ≡ None
  free-of-fault steps few grows = by_first (first_fault b side steps) refl where
    by_first : (o : Option (ℕ × StepFault)) → first_fault b side steps ≡ o → o ≡ None
    by_first None is = refl
    by_first (Some g) is =
        let s = first-place steps g.0 g.1 is in
        ⊎_elim
        (λ (four : length s.before ≡ 4).
        let whole : length steps ≡ length s.before + length (s.step ∷ s.later) = ap length s.split ∙ length-append s.before (s.step ∷ s.later) in
        absurd (omega arith))
        (λ stuck.
        let same : steps ≡ (s.before ++ s.step ∷ []) ++ s.later = s.split ∙ sym (append_assoc s.before (s.step ∷ []) s.later) in
        absurd (stuck (grows-beginning (s.before ++ s.step ∷ []) s.later (sym (ap (may_grow b side) same) ∙ grows))))
        s.stuck
