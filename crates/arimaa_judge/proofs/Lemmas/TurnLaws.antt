-- What the game answers to a turn is what the rules of records say of it.
use Rattle.std.proofs.Common.{◌≡◌, ◌≤◌, ℕ, Bool, true, false, cond, List, [], ◌∷◌, ◌++◌, Option, None, Some, Ok, Err, length, reverse, refl, sym, ap, ◌∙◌, nat_le}
use Rattle.std.specs.Prelude.{◌==◌, IfErr, OnOk, Result, is_ok, is_some, not}
use Rattle.std.proofs.lemmas.List.{length-map}
use Rattle.arimaa_board.specs.NotedTurns.{noted_turn, noted_marks}
use Rattle.arimaa_board.specs.declared.position.Position.{Position}
use Rattle.arimaa_board.specs.declared.position.Step.{Step}
use Rattle.arimaa_board.specs.declared.turn.NotedStep.{NotedStep}
use Rattle.arimaa_model.specs.declared.fault.ApplyFault.{ApplyFault}
use Rattle.arimaa_model.specs.declared.fault.ApplyFault.TheVariants as applying
use Rattle.arimaa_model.specs.declared.fault.FirstFault.{FirstFault}
use Rattle.arimaa_model.specs.declared.fault.StepFault.{StepFault}
use Rattle.arimaa_model.specs.declared.fault.TurnFault.{TurnFault}
use Rattle.arimaa_model.specs.Faults.{apply_result, first_fault, turn_fault, reached_by, judged_turn}
use Rattle.arimaa_model.specs.FirstFaults.{first_fault_in}
use Rattle.arimaa_model.specs.Game.{count_in, ending, present}
use Rattle.arimaa_model.specs.Wins.{is_nil}
use Rattle.arimaa_step.proofs.Lemmas.Outcomes.{apply_law}
use Rattle.arimaa_game.specs.declared.fault.GameFault.{GameFault}
use Rattle.arimaa_game.specs.declared.fault.GameFault.TheVariants as faults
use Rattle.arimaa_game.specs.Faults.{IsFaultOf, rule_broken}
use Rattle.arimaa_game.specs.Play.{GoesOn, Play, ending_of, has_right_marks, played_noted, take_back_fault, turns_in, unless_marked, unless_third}
use Rattle.arimaa_game.proofs.Lemmas.Endings.{unclosed-ending}
use Rattle.arimaa_game.proofs.Lemmas.Turns.{played-running}
use Rattle.arimaa_judge.specs.RecordState.{with_turn}
use Rattle.arimaa_judge.specs.RecordStateInvariant.{IsUnderWay}
use Rattle.arimaa_judge.specs.Rules.{rule_of_first, rule_of_game_fault, turn_rule}

-- a game that goes on does not answer that it has ended
never_over : (marked : Bool) (h : List Position) (r : Result Position ApplyFault) → IsFaultOf (unless_marked marked (unless_third h r)) faults.Over → ⊥
never_over true h (Err (applying.Step place f)) is = cc
never_over true h (Err (applying.Turn f)) is = cc
never_over false h (Err (applying.Step place f)) is = cc
never_over false h (Err (applying.Turn f)) is = cc
never_over true h (Ok q) is = by_count (nat_le 2 (count_in h q)) is where
  by_count : (v : Bool) → IsFaultOf (cond v (Err faults.Repeat) (Ok q)) faults.Over → ⊥
  by_count true e = cc
  by_count false e = cc
never_over false h (Ok q) is = by_count (nat_le 2 (count_in h q)) is where
  by_count : (v : Bool) → IsFaultOf (unless_marked false (cond v (Err faults.Repeat) (Ok q))) faults.Over → ⊥
  by_count true e = cc
  by_count false e = cc

-- nor that no turn stands
never_no_turn : (marked : Bool) (h : List Position) (r : Result Position ApplyFault) → IsFaultOf (unless_marked marked (unless_third h r)) faults.NoTurn → ⊥
never_no_turn true h (Err (applying.Step place f)) is = cc
never_no_turn true h (Err (applying.Turn f)) is = cc
never_no_turn false h (Err (applying.Step place f)) is = cc
never_no_turn false h (Err (applying.Turn f)) is = cc
never_no_turn true h (Ok q) is = by_count (nat_le 2 (count_in h q)) is where
  by_count : (v : Bool) → IsFaultOf (cond v (Err faults.Repeat) (Ok q)) faults.NoTurn → ⊥
  by_count true e = cc
  by_count false e = cc
never_no_turn false h (Ok q) is = by_count (nat_le 2 (count_in h q)) is where
  by_count : (v : Bool) → IsFaultOf (unless_marked false (cond v (Err faults.Repeat) (Ok q))) faults.NoTurn → ⊥
  by_count true e = cc
  by_count false e = cc

same_rule : (marked : Bool) (h : List Position) (r : Result Position ApplyFault) (e : GameFault) → IsFaultOf (unless_marked marked (unless_third h r)) e → rule_of_game_fault e ≡ rule_of_first (rule_broken e)
same_rule marked h r faults.Over is = absurd (never_over marked h r is)
same_rule marked h r faults.NoTurn is = absurd (never_no_turn marked h r is)
same_rule marked h r (faults.Step place f) is = refl
same_rule marked h r faults.Mark is = refl
same_rule marked h r (faults.Turn f) is = refl
same_rule marked h r faults.Repeat is = refl
same_rule marked h r faults.Memory is = refl

-- the rule that a turn breaks is that of its first fault
pub first_rule : (h : List Position) (p : Position) (noted : List NotedStep) (o : Option FirstFault) → present h ≡ Some p → first_fault_in h p (noted_turn noted) (noted_marks noted) ≡ o → rule_of_first o ≡ turn_rule h noted
first_rule h p noted o now is = sym (rw now (ap rule_of_first is))

-- an applied turn reaches what its steps reach
reached : (p q : Position) (steps : List Step) → apply_result p steps ≡ Ok q → q ≡ reached_by p (reverse steps)
unfolding apply_result
reached p q steps is = by_parts (first_fault p.board p.side steps) (turn_fault p.board p.side (reverse steps)) (reached_by p (reverse steps)) is where
  by_parts : (f : Option (ℕ × StepFault)) (w : Option TurnFault) (r : Position) → judged_turn f w r ≡ Ok q → q ≡ r
  by_parts (Some e) w r ok = absurd (cc)
  by_parts None (Some e) r ok = absurd (cc)
  by_parts None None r ok = cc

module _ (g : Play) (p : Position) (noted : List NotedStep) (unclosed : g.closing ≡ None) (running : ending g.history ≡ None) (now : present g.history ≡ Some p) where
  -- the game goes on
  pub goes : ending_of g ≡ None
  goes = sym (unclosed-ending g.history g.closing unclosed) ∙ running

  -- a fault of the game breaks the rule of the turn
  pub broken_rule : (e : GameFault) → IsFaultOf (played_noted g noted) e → first_fault_in g.history p (noted_turn noted) (noted_marks noted) ≡ rule_broken e → rule_of_game_fault e ≡ turn_rule g.history noted
  broken_rule e fault first =
      let marked : Bool = has_right_marks (present g.history) noted in
      let here = rw (← played-running g p (noted_turn noted) (ap is_some goes) now) at fault in
      same_rule marked g.history (apply_result p (noted_turn noted)) e here ∙ first_rule g.history p noted (rule_broken e) now first

  -- a turn that is played adds what its steps reach
  pub brought : (new : Play) → length noted ≤ 4 → GoesOn g (noted_turn noted) new → new.history ≡ with_turn g.history (noted_turn noted)
  brought new short on =
      let few : length (noted_turn noted) ≤ 4 = rw (length-map noted (λ (n : NotedStep). n.step)) short in
      let q = on.1 in
      let same : Some on.0 ≡ Some p = sym on.2.present ∙ now in
      let start : on.0 ≡ p = cc in
      let ok : apply_result on.0 (noted_turn noted) ≡ Ok q = (apply_law on.0 (noted_turn noted) few q).1 on.2.turn in
      let is : q ≡ reached_by p (reverse (noted_turn noted)) = reached p q (noted_turn noted) (sym (ap (λ (x : Position). apply_result x (noted_turn noted)) start) ∙ ok) in
      ap (λ (x : Play). x.history) on.3 ∙ rw now (ap (λ (x : Position). g.history ++ x ∷ []) is)

-- a game that is under way goes on so
pub goes_on : (old new : Play) (noted : List NotedStep) → IsUnderWay old → GoesOn old (noted_turn noted) new → IsUnderWay new
goes_on old new noted under_way on = rw on.3 (record { begun = filled old.history on.1; unclosed = under_way.unclosed }) where
  filled : (h : List Position) (q : Position) → is_nil (h ++ q ∷ []) ≡ false
  filled [] q = refl
  filled (p ∷ h) q = refl

-- a turn is taken back exactly where one stands
pub stood : (g : Play) (r : Result Position GameFault) → g.closing ≡ None → ending g.history ≡ None
    → OnOk r (take_back_fault g ≡ None) → IfErr r (λ e. take_back_fault g ≡ Some e)
    → is_ok r ≡ not (turns_in g.history == 0)
stood g r unclosed running due fault = by_answer r due fault where
  goes : ending_of g ≡ None
  goes = sym (unclosed-ending g.history g.closing unclosed) ∙ running

  rule : take_back_fault g ≡ cond (turns_in g.history == 0) (Some faults.NoTurn) None
  rule = rw goes refl

  taken : (none : Bool) → cond none (Some faults.NoTurn) None ≡ None → true ≡ not none
  taken true e = cc
  taken false e = refl

  refused : (none : Bool) (e : GameFault) → cond none (Some faults.NoTurn) None ≡ Some e → false ≡ not none
  refused true e is = refl
  refused false e is = cc

  by_answer : (r : Result Position GameFault) → OnOk r (take_back_fault g ≡ None) → IfErr r (λ e. take_back_fault g ≡ Some e) → is_ok r ≡ not (turns_in g.history == 0)
  by_answer (Ok p) due fault = taken (turns_in g.history == 0) (sym rule ∙ due)
  by_answer (Err e) due fault = refused (turns_in g.history == 0) e (sym rule ∙ fault)
