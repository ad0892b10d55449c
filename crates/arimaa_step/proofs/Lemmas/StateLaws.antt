-- What a state keeps decides what may follow the steps for which it stands.
use Rattle.std.proofs.Common.{◌≡◌, List, [], ◌∷◌, Bool, true, false, cond, None, Some, refl, sym, ◌∙◌, ap, ⊎_elim, arith, length, ne_eqb, add-one, Ok, Err}
use Rattle.std.specs.Prelude.{◌&&◌, ◌||◌, ◌==◌, not, nat_le}
use Rattle.std.proofs.lemmas.Bool.{or_cases, and_parts, true≢false}
use Rattle.arimaa_board.specs.declared.piece.Color.{Color}
use Rattle.arimaa_board.specs.declared.board.Board.{Board}
use Rattle.arimaa_board.specs.Board.{settle}
use Rattle.arimaa_board.specs.declared.position.Position.{Position}
use Rattle.arimaa_board.specs.declared.position.Step.{Step}
use Rattle.arimaa_board.specs.Words.{same_squares}
use Rattle.arimaa_model.specs.declared.fault.StepFault.TheVariants as fault
use Rattle.arimaa_model.specs.declared.fault.TurnFault.TheVariants.{Unfinished, Same}
use Rattle.arimaa_model.specs.Frozen.{beats}
use Rattle.arimaa_model.specs.Moves.{target, fits, after, can_push, enters, may_pull, is_single, is_half, is_push, is_pull}
use Rattle.arimaa_model.specs.Backward.{after_back, cuts_back, opens_back}
use Rattle.arimaa_model.specs.Faults.{ends_push, ends_pull, rule_of, step_fault, unless, reached_by}
use Rattle.arimaa_model.proofs.Lemmas.Growing.{single_fits, half_fits, pair_fits}
use Rattle.arimaa_step.proofs.PullLaws.{may_pull-from}
use Rattle.arimaa_step.specs.declared.state.TurnState.{TurnState}
use Rattle.arimaa_model.specs.Marks.{removed_by}
use Rattle.arimaa_step.specs.State.{left_if, open_of, pull_of, state_of, step_answer, finish_answer, trap_first}
use Rattle.arimaa_step.specs.Next.{could_push, completes_push, completes_pull, cuts_next, next_state, next_fault, next_answer, state_end}
use Rattle.arimaa_model.proofs.Lemmas.Pushers.{after_settled, same_pusher}

-- the last of steps that can be cut fits
pub last_fits_back : (b : Board) (side : Color) (t : Step) (before : List Step) → cuts_back b side (t ∷ before) ≡ true → fits (after_back b before) t ≡ true
last_fits_back b side t [] h = single_fits b side t h
last_fits_back b side t (u ∷ more) h =
    let whole = cuts_back b side (u ∷ more) in
    let one = is_single (after_back b (u ∷ more)) side t in
    let front = cuts_back b side more in
    let two = is_push (after_back b more) side u t || is_pull (after_back b more) side u t in
    ⊎_elim (λ e. single_fits (after_back b (u ∷ more)) side t (and_parts whole one e).1)
    (λ e. pair_fits (after_back b more) side u t (and_parts front two e).1)
    (or_cases (whole && one) (front && two) h)

-- the board after steps that can be cut is settled
settled_back : (b : Board) (side : Color) (t : Step) (before : List Step) → cuts_back b side (t ∷ before) ≡ true → settle (after_back b (t ∷ before)) ≡ after_back b (t ∷ before)
settled_back b side t before h = after_settled (after_back b before) t (last_fits_back b side t before h)

-- what a state knows of a pusher
could_push-is : (p : Position) (t : Step) (before : List Step) (s : Step) → cuts_back p.board p.side before ≡ true → is_half (after_back p.board before) p.side t ≡ true → fits (after_back p.board (t ∷ before)) s ≡ true → enters t.from (target s) ≡ true → could_push (state_of p (t ∷ before)) t.piece s ≡ can_push (after_back p.board before) t.piece (Some s.from)
could_push-is p t [] s c half fit into = refl
could_push-is p t (u ∷ more) s c half fit into =
    let here = after_back p.board (u ∷ more) in
    let long : (length (t ∷ u ∷ more) == 1) ≡ false = ne_eqb (length (t ∷ u ∷ more)) 1 (omega arith) in
    rw long (same_pusher here p.side t s (settled_back p.board p.side u more c) (half_fits here p.side t half) fit into)

push_parts : (c h a x f e : Bool) → (c ≡ true → h ≡ true → f ≡ true → e ≡ true → a ≡ x) → cond (c && h) (a && f && e) false ≡ (c && (h && x && f && e))
push_parts true true a x true true same = ap (λ v. v && true && true) (same refl refl refl refl)
push_parts true true true true true false same = refl
push_parts true true true false true false same = refl
push_parts true true false true true false same = refl
push_parts true true false false true false same = refl
push_parts true true true true false e same = refl
push_parts true true true false false e same = refl
push_parts true true false true false e same = refl
push_parts true true false false false e same = refl
push_parts true false a x f e same = refl
push_parts false h a x f e same = refl

completes_if : (st : TurnState) (s t : Step) (v : Bool) → completes_push st s (left_if v t) ≡ cond v (could_push st t.piece s && fits st.board s && enters t.from (target s)) false
completes_if st s t true = refl
completes_if st s t false = refl

push_law : (p : Position) (back : List Step) (s : Step) → completes_push (state_of p back) s (open_of p.board p.side back) ≡ ends_push p.board p.side back s
unfolding is_push
push_law p [] s = refl
push_law p (t ∷ before) s =
    let here = after_back p.board before in
    completes_if (state_of p (t ∷ before)) s t (cuts_back p.board p.side before && is_half here p.side t)
    ∙ push_parts (cuts_back p.board p.side before) (is_half here p.side t) (could_push (state_of p (t ∷ before)) t.piece s) (can_push here t.piece (Some s.from))
    (fits (after here t) s) (enters t.from (target s)) (could_push-is p t before s)

-- three facts that would bring about what is not so
and_three : (x y z : Bool) → (x ≡ true → y ≡ true → z ≡ true → false ≡ true) → (x && y && z) ≡ false
and_three true true true known = absurd (true≢false (sym (known refl refl refl)))
and_three true true false known = refl
and_three true false z known = refl
and_three false y z known = refl

pull_parts : (st : TurnState) (s t : Step) (c o w : Bool) → (o ≡ true → beats t.piece s.piece ≡ true → fits st.board s ≡ true → enters t.from (target s) ≡ true → w ≡ true) → completes_pull st s (left_if ((c && o) && w) t) ≡ (c && (o && beats t.piece s.piece && fits st.board s && enters t.from (target s)))
pull_parts st s t true true true known = refl
pull_parts st s t true true false known = sym (and_three (beats t.piece s.piece) (fits st.board s) (enters t.from (target s)) (known refl))
pull_parts st s t true false w known = refl
pull_parts st s t false o w known = refl

pull_law : (p : Position) (back : List Step) (s : Step) → completes_pull (state_of p back) s (pull_of p.board p.side back) ≡ ends_pull p.board p.side back s
unfolding is_pull
pull_law p [] s = refl
pull_law p (t ∷ before) s =
    pull_parts (state_of p (t ∷ before)) s t (cuts_back p.board p.side before) (is_single (after_back p.board before) p.side t) (may_pull (after_back p.board (t ∷ before)) t)
    (λ alone weaker fit into. may_pull-from (after_back p.board before) t s (single_fits (after_back p.board before) p.side t alone) weaker fit into)

or_none : (x : Bool) → (x || (false || false)) ≡ x
or_none true = refl
or_none false = refl

spread : (w c a b : Bool) → (w || (c && a || c && b)) ≡ (w || c && (a || b))
spread true c a b = refl
spread false true a b = refl
spread false false a b = refl

cuts_law : (p : Position) (back : List Step) (s : Step) → cuts_next (state_of p back) s ≡ cuts_back p.board p.side (s ∷ back)
cuts_law p [] s = or_none (is_single p.board p.side s)
cuts_law p (t ∷ before) s =
    let here = after_back p.board before in
    ap (λ v. cuts_back p.board p.side (t ∷ before) && is_single (after here t) p.side s || (v || completes_pull (state_of p (t ∷ before)) s (pull_of p.board p.side (t ∷ before)))) (push_law p (t ∷ before) s)
    ∙ (ap (λ v. cuts_back p.board p.side (t ∷ before) && is_single (after here t) p.side s || (ends_push p.board p.side (t ∷ before) s || v)) (pull_law p (t ∷ before) s)
    ∙ spread (cuts_back p.board p.side (t ∷ before) && is_single (after here t) p.side s) (cuts_back p.board p.side before) (is_push here p.side t s) (is_pull here p.side t s))

-- the state after one more step
pub state_law : (p : Position) (back : List Step) (s : Step) → next_state (state_of p back) s ≡ state_of p (s ∷ back)
state_law p back s = λ i. record {
  start = p;
  board = after_back p.board (s ∷ back);
  count = add-one (length back) i;
  cut = cuts_law p back s i;
  open_push = open_of p.board p.side (s ∷ back);
  open_pull = pull_of p.board p.side (s ∷ back);
}

-- the fault of one more step
pub fault_law : (p : Position) (back : List Step) (s : Step) → next_fault (state_of p back) s ≡ step_fault p.board p.side back s
unfolding step_fault
fault_law p back s = λ i.
    cond (nat_le 4 (length back)) (Some fault.Fifth)
    (cond (cuts_law p back s i || opens_back p.board p.side (s ∷ back)) None
    (Some (rule_of (after_back p.board back) p.side (cuts_back p.board p.side back) (push_law p back s i) (pull_law p back s i) s)))

-- what one more step answers
pub answer_law : (p : Position) (back : List Step) (s : Step) → next_answer (state_of p back) s ≡ step_answer p back s
unfolding next_answer
answer_law p back s = λ i. unless (fault_law p back s i) (record { state = state_law p back s i; removed = trap_first (removed_by (after_back p.board back) s) })

-- the end of a turn, computed from what a state keeps
pub end_law : (p : Position) (back : List Step) → state_end (state_of p back) ≡ finish_answer p back
end_law p [] = refl
end_law p (s ∷ before) =
    let some : (length (s ∷ before) == 0) ≡ false = ne_eqb (length (s ∷ before)) 0 (omega arith) in
    rw some (parts (cuts_back p.board p.side (s ∷ before)) (same_squares (after_back p.board (s ∷ before)) p.board)) where
      parts : (u v : Bool) → cond (not u) (Err Unfinished) (cond v (Err Same) (Ok (reached_by p (s ∷ before)))) ≡ unless (cond (not u) (Some Unfinished) (cond v (Some Same) None)) (reached_by p (s ∷ before))
      parts true true = refl
      parts true false = refl
      parts false v = refl
