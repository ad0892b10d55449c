-- What a state answers to a step, by the facts that the answer looks at.
use Rattle.std.proofs.Common.{◌≡◌, ℕ, ◌&&◌, Bool, true, false, cond, Option, None, Some, Ok, Err, refl, sym, ◌∙◌, ap, ⊎_elim}
use Rattle.std.specs.Prelude.{◌||◌, not, nat_le, is_ok, is_some}
use Rattle.std.proofs.lemmas.Bool.{or_cases, and_parts, true≢false}
use Rattle.arimaa_board.specs.declared.piece.Piece.{Piece}
use Rattle.arimaa_board.specs.declared.board.Board.{Board}
use Rattle.arimaa_board.specs.declared.position.Step.{Step}
use Rattle.arimaa_model.specs.declared.fault.StepFault.TheVariants as fault
use Rattle.arimaa_model.specs.Faults.{unless, rule_of}
use Rattle.arimaa_model.specs.Marks.{removed_by}
use Rattle.arimaa_model.specs.Moves.{target, is_free, fits, after, is_own, is_single, is_half}
use Rattle.arimaa_model.proofs.Lemmas.Growing.{single_fits, half_fits}
use Rattle.arimaa_step.specs.declared.state.TurnState.{TurnState}
use Rattle.arimaa_step.specs.State.{trap_first}
use Rattle.arimaa_step.specs.Next.{completes_push, completes_pull, goes_alone, begins_push, ends_move, cuts_next, next_state, next_answer}
use Rattle.arimaa_step.specs.AcceptedSteps.{ends_content}
use Rattle.arimaa_board.specs.declared.square.Dir.{Dir}
use Rattle.arimaa_board.specs.Square.{next_square}
use Rattle.arimaa_model.specs.Results.{step_of}

fault_parts : {E V : Type 0} (late moves : Bool) (e f : E) (v : V) → is_ok (unless (cond late (Some e) (cond moves None (Some f))) v) ≡ true → (late ≡ false) × (moves ≡ true)
fault_parts true moves e f v h = absurd (true≢false (sym h))
fault_parts false true e f v h = (refl, refl)
fault_parts false false e f v h = absurd (true≢false (sym h))

-- what is true only with a fact is false without it
never : (x fact : Bool) → (x ≡ true → fact ≡ true) → fact ≡ false → x ≡ false
never true fact known off = absurd (true≢false (sym (known refl) ∙ off))
never false fact known off = refl

-- one of three facts, of which each is known
pub any_is : (a b d x y z r : Bool) → r ≡ ((a || b) || d) → a ≡ x → b ≡ y → d ≡ z → ((x || y) || z) ≡ r
any_is a b d x y z r e ea eb ed = cc

or_off : (x y : Bool) → (x || y) ≡ false → (x ≡ false) × (y ≡ false)
or_off true y h = absurd (true≢false h)
or_off false y h = (refl, h)

no_move : (e : Bool) → ((false || e) || false) ≡ true → e ≡ false → ⊥
no_move true h off = true≢false off
no_move false h off = true≢false (sym h)

-- of a single step and a first half of a push, whose piece is known
alone_from : (c o sg hf e : Bool) → ((c && sg || e) || c && hf) ≡ true → e ≡ false → (sg ≡ true → o ≡ true) → (hf ≡ true → not o ≡ true) → (c && o) ≡ (c && sg)
alone_from false o sg hf e h off own other = refl
alone_from true true true hf e h off own other = refl
alone_from true true false true e h off own other = absurd (true≢false (sym (other refl)))
alone_from true true false false e h off own other = absurd (no_move e h off)
alone_from true false true hf e h off own other = absurd (true≢false (sym (own refl)))
alone_from true false false hf e h off own other = refl

begins_from : (c o sg hf e : Bool) → ((c && sg || e) || c && hf) ≡ true → e ≡ false → (sg ≡ true → o ≡ true) → (hf ≡ true → not o ≡ true) → (c && not o) ≡ (c && hf)
begins_from false o sg hf e h off own other = refl
begins_from true true sg true e h off own other = absurd (true≢false (sym (other refl)))
begins_from true true sg false e h off own other = refl
begins_from true false sg true e h off own other = refl
begins_from true false true false e h off own other = absurd (true≢false (sym (own refl)))
begins_from true false false false e h off own other = absurd (no_move e h off)

free_there : (b : Board) (t : Option ℕ) → is_free b t ≡ true → is_some t ≡ true
free_there b None h = absurd (true≢false (sym h))
free_there b (Some t) h = refl

-- a step that fits enters a square
pub fits_there : (b : Board) (s : Step) → fits b s ≡ true → is_some (target s) ≡ true
unfolding fits
fits_there b s h = free_there b (target s) (and_parts _ _ h).1

module _ (st : TurnState) (s : Step) where
  -- whether a step is accepted after fewer than four
  abbrev pub moves : Bool
  moves = cuts_next st s || begins_push st s

  -- an accepted step is a move, or begins or ends one, after fewer than four
  pub ok_parts : is_ok (next_answer st s) ≡ true → (nat_le 4 st.count ≡ false) × (moves ≡ true)
  unfolding next_answer
  ok_parts h = fault_parts (nat_le 4 st.count) moves _ _ _ h

  pub fifth_answer : nat_le 4 st.count ≡ true → next_answer st s ≡ Err fault.Fifth
  unfolding next_answer
  fifth_answer late = rw late refl

  pub ok_answer : nat_le 4 st.count ≡ false → moves ≡ true → next_answer st s ≡ Ok (record { state = next_state st s; removed = trap_first (removed_by st.board s) })
  unfolding next_answer
  ok_answer few yes_moves = rw (few, yes_moves) refl

  pub err_answer : nat_le 4 st.count ≡ false → moves ≡ false → next_answer st s ≡ Err (rule_of st.board st.start.side st.cut (completes_push st s st.open_push) (completes_pull st s st.open_pull) s)
  unfolding next_answer
  err_answer few stuck = rw (few, stuck) refl

  push_fits : (left : Option (ℕ × Piece)) → completes_push st s left ≡ true → fits st.board s ≡ true
  push_fits None h = absurd (true≢false (sym h))
  push_fits (Some left) h = (and_parts _ _ (and_parts _ _ h).0).1

  pull_fits : (left : Option (ℕ × Piece)) → completes_pull st s left ≡ true → fits st.board s ≡ true
  pull_fits None h = absurd (true≢false (sym h))
  pull_fits (Some left) h = (and_parts _ _ (and_parts _ _ h).0).1

  -- an accepted step fits
  pub moves_fit : moves ≡ true → fits st.board s ≡ true
  moves_fit h =
      ⊎_elim
      (λ cuts. ⊎_elim
      (λ alone. single_fits st.board st.start.side s (and_parts _ _ alone).1)
      (λ ends. ⊎_elim (push_fits st.open_push) (pull_fits st.open_pull) (or_cases (completes_push st s st.open_push) (completes_pull st s st.open_pull) ends))
      (or_cases (goes_alone st s) (ends_move st s) cuts))
      (λ begins. half_fits st.board st.start.side s (and_parts _ _ begins).1)
      (or_cases (cuts_next st s) (begins_push st s) h)

  -- a step that does not fit breaks a rule
  pub unfit_answer : nat_le 4 st.count ≡ false → fits st.board s ≡ false → next_answer st s ≡ Err (rule_of st.board st.start.side st.cut false false s)
  unfit_answer few unfit =
      let pushes : completes_push st s st.open_push ≡ false = never _ _ (push_fits st.open_push) unfit in
      let pulls : completes_pull st s st.open_pull ≡ false = never _ _ (pull_fits st.open_pull) unfit in
      err_answer few (never _ _ moves_fit unfit) ∙ ap (λ v. Err (rule_of st.board st.start.side st.cut v (completes_pull st s st.open_pull) s)) pushes
      ∙ ap (λ v. Err (rule_of st.board st.start.side st.cut false v s)) pulls

  -- a step that fits and is no move breaks a rule
  pub stuck_answer : nat_le 4 st.count ≡ false → ((goes_alone st s || ends_move st s) || begins_push st s) ≡ false → next_answer st s ≡ Err (rule_of st.board st.start.side st.cut false false s)
  stuck_answer few stuck =
      let parts = or_off (goes_alone st s || ends_move st s) (begins_push st s) stuck in
      let ends = or_off (goes_alone st s) (ends_move st s) parts.0 in
      let pair = or_off (completes_push st s st.open_push) (completes_pull st s st.open_pull) ends.1 in
      err_answer few stuck ∙ ap (λ v. Err (rule_of st.board st.start.side st.cut v (completes_pull st s st.open_pull) s)) pair.0
      ∙ ap (λ v. Err (rule_of st.board st.start.side st.cut false v s)) pair.1

  single_own : is_single st.board st.start.side s ≡ true → is_own st.start.side s ≡ true
  unfolding is_single
  single_own h = (and_parts _ _ (and_parts _ _ (and_parts _ _ h).0).0).1

  half_other : is_half st.board st.start.side s ≡ true → not (is_own st.start.side s) ≡ true
  unfolding is_half
  half_other h = (and_parts _ _ (and_parts _ _ h).0).1

  -- an accepted step that ends no move is a single step where its piece is of the side, and else begins a push
  pub alone_is : is_ok (next_answer st s) ≡ true → ends_move st s ≡ false → (st.cut && is_own st.start.side s) ≡ goes_alone st s
  alone_is ok ends = alone_from st.cut (is_own st.start.side s) (is_single st.board st.start.side s) (is_half st.board st.start.side s) (ends_move st s) (ok_parts ok).1 ends single_own half_other

  pub begins_is : is_ok (next_answer st s) ≡ true → ends_move st s ≡ false → (st.cut && not (is_own st.start.side s)) ≡ begins_push st s
  begins_is ok ends = begins_from st.cut (is_own st.start.side s) (is_single st.board st.start.side s) (is_half st.board st.start.side s) (ends_move st s) (ok_parts ok).1 ends single_own half_other

-- a step that ends a move stays on the board
pub ends_inside : (st : TurnState) (d : Dir) (n : ℕ) (o : Option Piece) → ends_content st d n o ≡ true → is_some (next_square n d) ≡ true
ends_inside st d n None ends = absurd (true≢false (sym ends))
ends_inside st d n (Some p) ends =
    fits_there st.board (step_of n d p) (moves_fit st (step_of n d p) (ok_parts st (step_of n d p) (and_parts _ _ ends).0).1)
