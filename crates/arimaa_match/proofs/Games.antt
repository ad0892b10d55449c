-- What a game answers to a turn with its right marks is what the rules of records say of it.
use Rattle.std.proofs.Common.{◌≡◌, ◌∙◌, ℕ, Bool, true, false, List, [], ◌∷◌, Option, None, Some, Err, ap, cond, nat_le, refl, reverse, sym}
use Rattle.std.specs.Prelude.{is_some}
use Rattle.arimaa_board.specs.declared.board.Board.{Board}
use Rattle.arimaa_board.specs.declared.piece.Piece.{Piece}
use Rattle.arimaa_board.specs.declared.position.Position.{Position}
use Rattle.arimaa_board.specs.declared.position.Step.{Step}
use Rattle.arimaa_board.specs.declared.turn.NotedStep.{NotedStep}
use Rattle.arimaa_board.specs.NotedTurns.{noted_marks, noted_turn}
use Rattle.arimaa_board.specs.declared.ending.Ending.{Ending}
use Rattle.arimaa_model.specs.declared.fault.ApplyFault.{ApplyFault}
use Rattle.arimaa_model.specs.declared.fault.FirstFault.{FirstFault}
use Rattle.arimaa_model.specs.declared.fault.StepFault.{StepFault}
use Rattle.arimaa_model.specs.declared.fault.TurnFault.{TurnFault}
use Rattle.arimaa_model.specs.Faults.{apply_result, first_fault, judged_turn, reached_by, turn_fault}
use Rattle.arimaa_model.specs.FirstFaults.{first_fault_in, step_or_whole, whole_fault}
use Rattle.arimaa_model.specs.Marks.{marks_of, marks_right}
use Rattle.arimaa_model.specs.Moves.{after}
use Rattle.arimaa_step.specs.declared.marks.Marks.TheVariants.{Optional}
use Rattle.arimaa_step.specs.MarkRules.{marks_fit}
use Rattle.arimaa_model.specs.Game.{count_in, ending, present}
use Rattle.arimaa_game.specs.declared.fault.GameFault.{GameFault}
use Rattle.arimaa_game.specs.declared.fault.GameFault.TheVariants as faults
use Rattle.arimaa_game.specs.Faults.{IsFaultOf, rule_broken as rule_of_fault}
use Rattle.arimaa_game.specs.Play.{GoesOn, Play, ending_of, played_noted}
use Rattle.arimaa_game.proofs.Lemmas.Endings.{running-rules}
use Rattle.arimaa_judge.specs.RecordStateInvariant.{IsUnderWay}
use Rattle.arimaa_judge.specs.Rules.{rule_of_first, rule_of_game_fault, turn_rule}
use Rattle.arimaa_judge.proofs.Lemmas.TurnLaws.{broken_rule, first_rule, goes}
use Rattle.arimaa_match.specs.MatchState.{if_lawful, rightly_marked, turn_at, turn_in, with_marks}

-- a turn that was played breaks no rule
pub played_lawful : (g new : Play) (p : Position) (noted : List NotedStep)
    → present g.history ≡ Some p → GoesOn g (noted_turn noted) new
    → first_fault_in g.history p (noted_turn noted) (noted_marks noted) ≡ None
    → Some noted ≡ if_lawful g.history noted
played_lawful g new p noted now on first =
    let running : ending g.history ≡ None = running-rules g on.2.running in
    let none : turn_rule g.history noted ≡ None =
    sym (first_rule g.history p noted None now first) in
    rw (running, none) refl

-- a fault that is none of memory breaks a rule
breaks_rule : (e : GameFault) → (e ≡ faults.Memory → ⊥) → is_some (rule_of_game_fault e) ≡ true
breaks_rule faults.Over not = refl
breaks_rule faults.NoTurn not = refl
breaks_rule (faults.Step place f) not = refl
breaks_rule faults.Mark not = refl
breaks_rule (faults.Turn f) not = refl
breaks_rule faults.Repeat not = refl
breaks_rule faults.Memory not = absurd (not refl)

-- a turn that was not played breaks one
pub refused_unlawful : (g : Play) (p : Position) (noted : List NotedStep) (e : GameFault)
    → IsUnderWay g → present g.history ≡ Some p → (e ≡ faults.Memory → ⊥)
    → IsFaultOf (played_noted g noted) e
    → (ending_of g ≡ None
    → first_fault_in g.history p (noted_turn noted) (noted_marks noted) ≡ rule_of_fault e)
    → None ≡ if_lawful g.history noted
refused_unlawful g p noted e under_way now not fault first = by_ending (ending g.history) refl where
  by_ending : (o : Option Ending) → ending g.history ≡ o → None ≡ if_lawful g.history noted
  by_ending (Some ended) is = rw is refl
  by_ending None is =
      let rule = broken_rule g p noted under_way.unclosed is now e fault
      (first (goes g p noted under_way.unclosed is now)) in
      let broken : is_some (turn_rule g.history noted) ≡ true = rw (← rule) (breaks_rule e not) in
      rw (is, broken) refl

-- steps and their marks are the turn that has them
marked_so : (ns : List NotedStep) → ns ≡ with_marks (noted_turn ns) (noted_marks ns)
marked_so [] = refl
marked_so (n ∷ ns) = ap (λ (rest : List NotedStep). n ∷ rest) (marked_so ns)

pub marked_as : (ns : List NotedStep) (steps : List Step) (marks : List (Option (Piece × ℕ)))
    → noted_turn ns ≡ steps → noted_marks ns ≡ marks → ns ≡ with_marks steps marks
marked_as ns steps marks one two =
    marked_so ns ∙ ap (λ (steps : List Step). with_marks steps (noted_marks ns)) one
    ∙ ap (with_marks steps) two

-- steps with their right marks are these steps
turn_of_marked : (b : Board) (steps : List Step) → noted_turn (rightly_marked b steps) ≡ steps
unfolding marks_of
turn_of_marked b [] = refl
turn_of_marked b (s ∷ rest) =
    ap (λ (later : List Step). s ∷ later) (turn_of_marked (after b s) rest)

-- steps that are no turn have a first fault, whatever their marks
has_fault : (h : List Position) (p : Position) (steps : List Step)
    (marks : List (Option (Piece × ℕ))) (e : ApplyFault)
    → apply_result p steps ≡ Err e → is_some (first_fault_in h p steps marks) ≡ true
unfolding apply_result first_fault_in
has_fault h p steps marks e is =
    by_parts (first_fault p.board p.side steps) (turn_fault p.board p.side (reverse steps))
    (reached_by p (reverse steps)) (marks_right p.board steps marks)
    (nat_le 2 (count_in h (reached_by p (reverse steps)))) is where
      by_parts : (f : Option (ℕ × StepFault)) (w : Option TurnFault) (r : Position)
          (marked repeats : Bool) → judged_turn f w r ≡ Err e
          → is_some (step_or_whole f (whole_fault marked w repeats)) ≡ true
      by_parts (Some x) w r marked repeats apart = refl
      by_parts None (Some w) r true repeats apart = refl
      by_parts None (Some w) r false repeats apart = refl
      by_parts None None r marked repeats apart = absurd (cc)

some_rule : (o : Option FirstFault) → is_some o ≡ true → is_some (rule_of_first o) ≡ true
some_rule (Some f) is = refl
some_rule None is = absurd (cc)

-- steps that are no turn break a rule
no_turn_unlawful : (h : List Position) (p : Position) (steps : List Step) (e : ApplyFault)
    → present h ≡ Some p → apply_result p steps ≡ Err e
    → None ≡ if_lawful h (rightly_marked p.board steps)
no_turn_unlawful h p steps e now refused = by_ending (ending h) refl where
  marked : List NotedStep
  marked = rightly_marked p.board steps

  by_ending : (o : Option Ending) → ending h ≡ o → None ≡ if_lawful h marked
  by_ending (Some ended) is = rw is refl
  by_ending None is =
      let first = first_fault_in h p (noted_turn marked) (noted_marks marked) in
      let none : apply_result p (noted_turn marked) ≡ Err e =
      ap (apply_result p) (turn_of_marked p.board steps) ∙ refused in
      let broken : is_some (turn_rule h marked) ≡ true =
      ap is_some (sym (first_rule h p marked first now refl))
      ∙ some_rule first (has_fault h p (noted_turn marked) (noted_marks marked) e none) in
      rw (is, broken) refl

module _ (h : List Position) (p : Position) (noted : List NotedStep) (now : present h ≡ Some p)
    (fits : marks_fit Optional p.board noted ≡ true) where
  -- where the marks fit, a turn is made with its right ones, if that is lawful
  turn_fits : turn_in h noted ≡ if_lawful h (rightly_marked p.board (noted_turn noted))
  turn_fits =
      ap (λ (o : Option Position). turn_at h o noted) now
      ∙ ap (λ (fit : Bool). cond fit
      (if_lawful h (rightly_marked p.board (noted_turn noted))) None) fits

  -- steps that are no turn make none
  pub turn_refused : (e : ApplyFault) → apply_result p (noted_turn noted) ≡ Err e
      → None ≡ turn_in h noted
  turn_refused e refused = no_turn_unlawful h p (noted_turn noted) e now refused ∙ sym turn_fits

  pub turn_made : (marked : List NotedStep) → noted_turn marked ≡ noted_turn noted
      → noted_marks marked ≡ marks_of p.board (noted_turn noted)
      → turn_in h noted ≡ if_lawful h marked
  turn_made marked steps marks =
      turn_fits ∙ ap (if_lawful h)
      (sym (marked_as marked (noted_turn noted)
      (marks_of p.board (noted_turn noted)) steps marks))
