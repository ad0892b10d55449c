-- What a turn brings about in a game, and its first fault.
use Rattle.std.proofs.Common.{◌≡◌, ◌≤◌, ℕ, List, Option, None, Some, Ok, Err, Bool, true, false, cond, length, reverse, refl, sym, ap, subst, ◌∙◌, rules, nat_le}
use Rattle.std.specs.Prelude.{Result, IfErr, IsTrue, OnOk, is_some}
use Rattle.arimaa_board.specs.Fit.{IsFit}
use Rattle.arimaa_board.specs.Piece.{other_color}
use Rattle.arimaa_board.specs.declared.piece.Piece.{Piece}
use Rattle.arimaa_board.specs.declared.position.Position.{Position}
use Rattle.arimaa_board.specs.declared.position.Step.{Step}
use Rattle.arimaa_model.specs.declared.fault.ApplyFault.{ApplyFault}
use Rattle.arimaa_model.specs.declared.fault.StepFault.{StepFault}
use Rattle.arimaa_model.specs.declared.fault.TurnFault.{TurnFault}
use Rattle.arimaa_model.specs.Faults.{apply_result, first_fault, judged_turn, reached_by, turn_fault}
use Rattle.arimaa_model.specs.FirstFaults.{first_fault_in, step_or_whole, whole_fault}
use Rattle.arimaa_model.specs.Marks.{marks_right}
use Rattle.arimaa_model.specs.Members.{Stands}
use Rattle.arimaa_model.specs.Results.{position_of, results, stands_in}
use Rattle.arimaa_model.specs.Game.{count_in, lawful, lawful_at, present}
use Rattle.arimaa_model.proofs.Lemmas.Distinct.{turn-is, turns-reach}
use Rattle.arimaa_model.proofs.Lemmas.Numbers.{turn-fit}
use Rattle.arimaa_model.proofs.Lemmas.RelatedWins.{lawful-Decides}
use Rattle.arimaa_step.specs.Future.{IsTurnTo}
use Rattle.arimaa_step.proofs.Lemmas.Outcomes.{apply_law}
use Rattle.arimaa_history.proofs.Lemmas.Present.{present-holds}
use Rattle.arimaa_game.specs.declared.fault.GameFault.{GameFault}
use Rattle.arimaa_game.specs.declared.fault.GameFault.TheVariants as faults
use Rattle.arimaa_game.specs.Faults.{IsFaultOf, fault_of, rule_broken, rule_of_answer}
use Rattle.arimaa_game.proofs.Lemmas.Endings.{not_ended}
use Rattle.arimaa_game.specs.Play.{BringsAbout, IsGame, Play, Reaches, ending_of, play_outcome, unless_marked, unless_third}

-- no turn is played in a game that has ended
pub played-over : (g : Play) (steps : List Step) → is_some (ending_of g) ≡ true → Err faults.Over ≡ play_outcome g steps
unfolding play_outcome
played-over g steps over = sym (rw over refl)

-- in one that goes on it is played from the present position
pub played-running : (g : Play) (p : Position) (steps : List Step) → is_some (ending_of g) ≡ false → present g.history ≡ Some p → unless_third g.history (apply_result p steps) ≡ play_outcome g steps
unfolding play_outcome
played-running g p steps running now = sym (rw (running, now) refl)

lawful-present : (h : List Position) (p : Position) → present h ≡ Some p → lawful h ≡ lawful_at h p
lawful-present h p now = rw now refl

parts-position : (p q : Position) → q.side ≡ other_color p.side → position_of q.board p ≡ q
parts-position p q side = λ i. record { board = q.board; side = sym side i }

-- a turn that can be applied in a game that goes on reaches a position on a fit board, which is lawful unless it stands twice
module _ (g : Play) (p : Position) (steps : List Step) (game : IsGame g) (now : present g.history ≡ Some p) (few : length steps ≤ 4) (running : is_some (ending_of g) ≡ false) where
  pub reaches : (q : Position) → Ok q ≡ apply_result p steps → Reaches g p steps q
  reaches q is =
      let turn : IsTurnTo p steps q = (apply_law p steps few q).0 (sym is) in
      let fit : IsFit p.board = present-holds (λ (x : Position). IsFit x.board) g.history p game.fit now in
      let reached : Stands (results p) q = subst (Stands (results p)) (parts-position p q turn.1) (turns-reach p steps q.board fit.size turn.0) in
      record {
        answer = sym (played-running g p steps running now) ∙ ap (unless_third g.history) (sym is);
        running = not_ended (ending_of g) running;
        present = now;
        turn = turn;
        lawful = λ once. ap (λ (qs : List Position). stands_in qs q) (lawful-present g.history p now) ∙ (lawful-Decides g.history p q).1 (reached, once);
        fit = subst IsFit turn.0.leads (turn-fit p.board p.side steps fit (turn-is p.board p.side steps q.board turn.0));
      }

-- a turn that cannot be applied has its fault in the game
pub played-fault : (g : Play) (p : Position) (steps : List Step) (e : ApplyFault) → present g.history ≡ Some p → is_some (ending_of g) ≡ false → Err e ≡ apply_result p steps → play_outcome g steps ≡ Err (fault_of e)
played-fault g p steps e now running is = sym (played-running g p steps running now) ∙ ap (unless_third g.history) (sym is)

-- what stands at most once may be reached
pub third-allowed : (h : List Position) (q : Position) → count_in h q ≤ 1 → unless_third h (Ok q) ≡ Ok q
third-allowed h q once =
    let few : nat_le 2 (count_in h q) ≡ false = search rules in
    rw few refl

-- what is reached is brought about where it stands at most once
pub brought-about : (g : Play) (p : Position) (steps : List Step) (q : Position) → Reaches g p steps q → count_in g.history q ≤ 1 → BringsAbout g p steps q
brought-about g p steps q reached once = record {
  answer = reached.answer ∙ third-allowed g.history q once;
  running = reached.running;
  present = reached.present;
  turn = reached.turn;
  lawful = reached.lawful once;
  fit = reached.fit;
}

-- what is answered about a position that is reached breaks the rule that is due
pub third-rule : {V : Type 0} (h : List Position) (q : Position) (answer : Result V GameFault) → IfErr answer (IsFaultOf (unless_third h (Ok q))) → OnOk answer (count_in h q ≤ 1) → rule_of_answer (unless_third h (Ok q)) ≡ rule_of_answer answer
third-rule h q (Ok v) fault once = ap rule_of_answer (third-allowed h q once)
third-rule h q (Err e) fault once = by_due (unless_third h (Ok q)) fault where
  by_due : (due : Result Position GameFault) → IsFaultOf due e → rule_of_answer due ≡ rule_broken e
  by_due (Ok x) is = ap rule_broken (sym is)
  by_due (Err d) is = ap rule_broken (sym is)

same_rule : (h : List Position) (q : Position) (marked : Bool) (f : Option (ℕ × StepFault)) (w : Option TurnFault)
    → step_or_whole f (whole_fault marked w (nat_le 2 (count_in h q))) ≡ rule_of_answer (unless_marked marked (unless_third h (judged_turn f w q)))
same_rule h q true (Some f) w = refl
same_rule h q false (Some f) w = refl
same_rule h q true None (Some w) = refl
same_rule h q false None (Some w) = refl
same_rule h q true None None = elim (nat_le 2 (count_in h q)) as (λ v. step_or_whole None (whole_fault true None v) ≡ rule_of_answer (cond v (Err faults.Repeat) (Ok q))) [ true ↦ refl | false ↦ refl ]
same_rule h q false None None =
    elim (nat_le 2 (count_in h q)) as (λ v. step_or_whole None (whole_fault false None v) ≡ rule_of_answer (unless_marked false (cond v (Err faults.Repeat) (Ok q)))) [ true ↦ refl | false ↦ refl ]

-- the fault of a turn with its marks is the first that the rules name
pub noted-rule : (g : Play) (p : Position) (steps : List Step) (marks : List (Option (Piece × ℕ))) → present g.history ≡ Some p → ending_of g ≡ None
    → first_fault_in g.history p steps marks ≡ rule_of_answer (unless_marked (marks_right p.board steps marks) (play_outcome g steps))
unfolding first_fault_in apply_result
noted-rule g p steps marks now running =
    same_rule g.history (reached_by p (reverse steps)) (marks_right p.board steps marks) (first_fault p.board p.side steps) (turn_fault p.board p.side (reverse steps))
    ∙ ap (λ (r : Result Position GameFault). rule_of_answer (unless_marked (marks_right p.board steps marks) r)) (played-running g p steps (ap is_some running) now)

-- for right marks the fault of a turn is the first that the rules name
pub first-rule : (g : Play) (p : Position) (steps : List Step) (marks : List (Option (Piece × ℕ))) → present g.history ≡ Some p → ending_of g ≡ None → IsTrue (marks_right p.board steps marks) → first_fault_in g.history p steps marks ≡ rule_of_answer (play_outcome g steps)
first-rule g p steps marks now running right =
    noted-rule g p steps marks now running ∙ ap (λ (b : Bool). rule_of_answer (unless_marked b (play_outcome g steps))) right

-- for wrong marks it is the fault of the marks, unless a step is refused
pub unmarked-rule : (g : Play) (p : Position) (steps : List Step) (marks : List (Option (Piece × ℕ))) → present g.history ≡ Some p → ending_of g ≡ None → marks_right p.board steps marks ≡ false
    → first_fault_in g.history p steps marks ≡ rule_of_answer (unless_marked false (play_outcome g steps))
unmarked-rule g p steps marks now running wrong =
    noted-rule g p steps marks now running ∙ ap (λ (b : Bool). rule_of_answer (unless_marked b (play_outcome g steps))) wrong
