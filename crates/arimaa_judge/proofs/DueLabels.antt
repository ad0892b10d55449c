-- The labels of the turn lines that stand, before the one that is due.
use Rattle.std.proofs.Common.{◌≡◌, ◌≤◌, ◌<◌, ◌+◌, ◌-◌, ℕ, zero, suc, Bool, true, false, cond, List, [], ◌∷◌, length, length-append, reverse, Option, None, Some, refl, sym, ap, subst, ◌∙◌, arith, ne_eqb, true≢false}
use Rattle.std.specs.Prelude.{◌==◌, not, nat_lt}
use Rattle.std.proofs.lemmas.List.{length-take-le}
use Rattle.arimaa_board.specs.declared.piece.Color.{Color}
use Rattle.arimaa_board.specs.declared.piece.Color.TheVariants.{Gold, Silver}
use Rattle.arimaa_board.specs.declared.position.Position.{Position}
use Rattle.arimaa_board.specs.declared.position.Step.{Step}
use Rattle.arimaa_model.specs.Faults.{reached_by}
use Rattle.arimaa_model.specs.Game.{present}
use Rattle.arimaa_model.specs.Wins.{is_nil}
use Rattle.arimaa_history.specs.Counts.{without_last}
use Rattle.arimaa_record.specs.declared.label.Label.{Label}
use Rattle.arimaa_record.specs.Label.{is_last_at, is_last_label, label_after, label_of, next_label, previous_label}
use Rattle.arimaa_record.proofs.Lemmas.LabelOrder.{previous-next}
use Rattle.arimaa_board.specs.declared.ending.Ending.{Ending}
use Rattle.arimaa_game.specs.Play.{Play, turns_in}
use Rattle.arimaa_judge.specs.declared.record_state.Stage.{Stage}
use Rattle.arimaa_judge.specs.declared.record_state.Stage.TheVariants as stage
use Rattle.arimaa_judge.specs.RecordState.{RecordState, with_played, with_turn, with_turn_back, without_turn}
use Rattle.arimaa_judge.specs.RecordStateInvariant.{AreRepeats, gold_of, history_of, labels_before}

-- after the last label of all it is due again
last-stays : (number : ℕ) (side : Color) → is_last_at number side ≡ true → label_after number side ≡ label_of number side
last-stays number Gold last = absurd (true≢false (sym last))
last-stays number Silver last = by_room (nat_lt number 999999999) last where
  by_room : (room : Bool) → not room ≡ true → cond room (label_of (number + 1) Gold) (label_of number Silver) ≡ label_of number Silver
  by_room true e = absurd (true≢false (sym e))
  by_room false e = refl

next-last : (due : Label) → is_last_label due ≡ true → next_label due ≡ due
next-last due last = last-stays due.number due.side last

-- there are as many labels as turn lines
pub labels-count : (turns repeated : ℕ) (due : Label) → length (labels_before turns repeated due) ≡ turns
labels-count zero repeated due = refl
labels-count (suc turns) zero due = ap suc (labels-count turns zero (previous_label due))
labels-count (suc turns) (suc repeated) due = ap suc (labels-count turns repeated due)

pub labels-none : (turns repeated : ℕ) (due : Label) → is_nil (labels_before turns repeated due) ≡ (turns == 0)
labels-none zero repeated due = refl
labels-none (suc turns) zero due = sym (ne_eqb (suc turns) 0 (λ e. omega (arith, e)))
labels-none (suc turns) (suc repeated) due = sym (ne_eqb (suc turns) 0 (λ e. omega (arith, e)))

-- one turn line more
pub labels-more : (turns repeated : ℕ) (due : Label) (last : Bool) → is_last_label due ≡ last → 0 < turns → AreRepeats (turns - 1) repeated due
    → labels_before turns (cond last (repeated + 1) 0) (next_label due) ≡ due ∷ labels_before (turns - 1) repeated due
labels-more zero repeated due last is some repeats = absurd (omega arith)
labels-more (suc turns) repeated due true is some repeats =
    let before : suc turns - 1 ≡ turns = omega arith in
    let again : repeated + 1 ≡ suc repeated = omega arith in
    let stays = next-last due is in
    (λ i. labels_before (suc turns) (again i) (stays i)) ∙ (λ i. due ∷ labels_before (sym before i) repeated due)
labels-more (suc turns) repeated due false is some repeats =
    let before : suc turns - 1 ≡ turns = omega arith in
    let none : repeated ≡ 0 = repeats.last is in
    let back = previous-next due is in
    (λ i. back i ∷ labels_before turns 0 (back i)) ∙ (λ i. due ∷ labels_before (sym before i) (sym none i) due)

pub repeats-more : (turns repeated : ℕ) (due : Label) (last : Bool) → is_last_label due ≡ last → 0 < turns → AreRepeats (turns - 1) repeated due
    → AreRepeats turns (cond last (repeated + 1) 0) (next_label due)
repeats-more turns repeated due true is some repeats = record {
  last = λ other. absurd (true≢false (sym is ∙ (ap is_last_label (sym (next-last due is)) ∙ other)));
  few = omega (arith, some, repeats.few);
}
repeats-more turns repeated due false is some repeats = record { last = λ _. refl; few = omega arith }

-- one turn line less, where the last one has the label that is due
pub labels-again : (turns repeated : ℕ) (due : Label) → 0 < repeated → labels_before (turns + 1) repeated due ≡ due ∷ labels_before turns (repeated - 1) due
labels-again turns zero due some = absurd (omega arith)
labels-again turns (suc repeated) due some =
    let more : turns + 1 ≡ suc turns = omega arith in
    let before : suc repeated - 1 ≡ repeated = omega arith in
    (λ i. labels_before (more i) (suc repeated) due) ∙ (λ i. due ∷ labels_before turns (sym before i) due)

pub repeats-again : (turns repeated : ℕ) (due : Label) → 0 < repeated → AreRepeats (turns + 1) repeated due → AreRepeats turns (repeated - 1) due
repeats-again turns repeated due some repeats = record {
  last = λ other. let none : repeated ≡ 0 = repeats.last other in absurd (omega arith);
  few = omega (arith, repeats.few, some);
}

-- one less, where it has the label before that
pub labels-less : (turns repeated : ℕ) (due : Label) → repeated ≤ 0 → labels_before (turns + 1) repeated due ≡ previous_label due ∷ labels_before turns 0 (previous_label due)
labels-less turns zero due none = let more : turns + 1 ≡ suc turns = omega arith in λ i. labels_before (more i) 0 due
labels-less turns (suc repeated) due none = absurd (omega arith)

pub repeats-less : (turns : ℕ) (due : Label) → AreRepeats turns 0 due
repeats-less turns due = record { last = λ _. refl; few = omega arith }

-- where there is a position, one is present
is-present : (h : List Position) → is_nil h ≡ false → (p : Position) × (present h ≡ Some p)
is-present [] some = absurd (true≢false some)
is-present (p ∷ []) some = (p, refl)
is-present (p ∷ q ∷ h) some = is-present (q ∷ h) refl

filled : (h : List Position) → is_nil h ≡ false → 0 < length h
filled [] some = absurd (true≢false some)
filled (p ∷ h) some = omega arith

-- a turn that is played is one more that stands
pub turns-more : (h : List Position) (steps : List Step) → is_nil h ≡ false → turns_in (with_turn h steps) ≡ turns_in h + 1
turns-more h steps some =
    let found = is-present h some in
    let size = length-append h (reached_by found.0 (reverse steps) ∷ []) in
    let few = filled h some in
    rw found.1 (omega (arith, size, few))

-- and one that is taken back is one less
pub turns-less : (h : List Position) → (turns_in h ≡ 0 → ⊥) → turns_in (without_last h) + 1 ≡ turns_in h
turns-less h some =
    let left : length (without_last h) ≡ length h - 1 = length-take-le (length h - 1) h (omega arith) in
    more (length h - 1) (length (without_last h)) some left where
      more : (turns n : ℕ) → (turns ≡ 0 → ⊥) → n ≡ turns → n - 1 + 1 ≡ turns
      more zero n some is = absurd (some refl)
      more (suc turns) n some is = omega (arith, is)

-- what the code keeps, as contracts see it
abbrev pub state_at : Stage → ℕ → Label → Bool → Option Ending → RecordState
state_at at repeated due closed word = record {
  gold = gold_of at;
  history = history_of at;
  labels = labels_before (turns_in (history_of at)) repeated due;
  due = due;
  closed = closed;
  word = word;
}

-- after one more turn the number of those before it
before-more : (h new : List Position) (steps : List Step) (turns : ℕ) → is_nil h ≡ false → new ≡ with_turn h steps → turns ≡ turns_in new → turns - 1 ≡ turns_in h
before-more h new steps turns some played count =
    let more : turns ≡ turns_in h + 1 = count ∙ (ap turns_in played ∙ turns-more h steps some) in
    omega (arith, more)

pub repeats-before : (h new : List Position) (steps : List Step) (turns repeated : ℕ) (due : Label) → is_nil h ≡ false → new ≡ with_turn h steps → turns ≡ turns_in new
    → AreRepeats (turns_in h) repeated due → AreRepeats (turns - 1) repeated due
repeats-before h new steps turns repeated due some played count repeats =
    subst (λ n. AreRepeats n repeated due) (sym (before-more h new steps turns some played count)) repeats

-- the state after a turn that is played
pub played-state : (g new : Play) (steps : List Step) (turns repeated r : ℕ) (due next : Label) (closed : Bool) (word : Option Ending)
    → is_nil g.history ≡ false → new.history ≡ with_turn g.history steps → turns ≡ turns_in new.history → next ≡ next_label due
    → labels_before turns r (next_label due) ≡ due ∷ labels_before (turns - 1) repeated due
    → state_at (stage.Playing new) r next closed word ≡ with_played (state_at (stage.Playing g) repeated due closed word) steps
played-state g new steps turns repeated r due next closed word some played count is more =
    let before = before-more g.history new.history steps turns some played count in
    let labels : labels_before (turns_in new.history) r next ≡ due ∷ labels_before (turns_in g.history) repeated due =
    (λ i. labels_before (sym count i) r (is i)) ∙ (more ∙ (λ i. due ∷ labels_before (before i) repeated due)) in
    λ i. record { gold = None; history = played i; labels = labels i; due = is i; closed = closed; word = word }

-- the state after a turn that is taken back
pub taken-state : (g new : Play) (repeated r : ℕ) (due label : Label) (closed : Bool) (word : Option Ending)
    → (turns_in g.history ≡ 0 → ⊥) → new.history ≡ without_last g.history
    → ((turns : ℕ) → labels_before (turns + 1) repeated due ≡ label ∷ labels_before turns r label)
    → state_at (stage.Playing new) r label closed word ≡ with_turn_back (state_at (stage.Playing g) repeated due closed word)
taken-state g new repeated r due label closed word some taken each =
    let less : turns_in new.history + 1 ≡ turns_in g.history = ap (λ h. turns_in h + 1) taken ∙ turns-less g.history some in
    let labels : labels_before (turns_in g.history) repeated due ≡ label ∷ labels_before (turns_in new.history) r label =
    ap (λ n. labels_before n repeated due) (sym less) ∙ each (turns_in new.history) in
    (λ i. record { gold = None; history = taken i; labels = labels_before (turns_in new.history) r label; due = label; closed = closed; word = word })
    ∙ sym (ap (without_turn (state_at (stage.Playing g) repeated due closed word)) labels)

pub repeats-taken : (g new : Play) (repeated r : ℕ) (due label : Label) → (turns_in g.history ≡ 0 → ⊥) → new.history ≡ without_last g.history
    → AreRepeats (turns_in g.history) repeated due
    → ((turns : ℕ) → AreRepeats (turns + 1) repeated due → AreRepeats turns r label) → AreRepeats (turns_in new.history) r label
repeats-taken g new repeated r due label some taken repeats each =
    let less : turns_in new.history + 1 ≡ turns_in g.history = ap (λ h. turns_in h + 1) taken ∙ turns-less g.history some in
    each (turns_in new.history) (subst (λ n. AreRepeats n repeated due) (sym less) repeats)

-- the state where the game stays as it was
pub same-state : (g new : Play) (repeated : ℕ) (due : Label) (closed : Bool) (word : Option Ending) → new.history ≡ g.history
    → state_at (stage.Playing new) repeated due closed word ≡ state_at (stage.Playing g) repeated due closed word
same-state g new repeated due closed word same =
    λ i. record { gold = None; history = same i; labels = labels_before (turns_in (same i)) repeated due; due = due; closed = closed; word = word }

-- where no game is played no turn stands
pub none-standing : (at : Stage) (repeated : ℕ) (due : Label) → ((g : Play) → at ≡ stage.Playing g → ⊥) → is_nil (labels_before (turns_in (history_of at)) repeated due) ≡ true
none-standing stage.Begin repeated due other = refl
none-standing (stage.GoldPlaced gold) repeated due other = refl
none-standing (stage.Playing g) repeated due other = absurd (other g refl)
