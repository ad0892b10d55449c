-- A turn with its marks, as it is written.
use Rattle.std.proofs.Common.{◌≡◌, suc, ◌<◌, ◌≤◌, List, [], ◌∷◌, length, Some, Result, Ok, Err, true, refl, sym, ◌∙◌, ap, arith}
use Rattle.std.specs.Prelude.{is_ok, reverse, IfErr}
use Rattle.std.proofs.lemmas.Bool.{and_parts, leb-true}
use Rattle.arimaa_board.specs.declared.board.Board.{Board}
use Rattle.arimaa_board.specs.declared.position.Step.{Step}
use Rattle.arimaa_board.specs.declared.position.Position.{Position}
use Rattle.arimaa_board.specs.declared.turn.NotedStep.{NotedStep}
use Rattle.arimaa_board.specs.NotedTurns.{noted_turn, noted_marks}
use Rattle.arimaa_model.specs.Results.{result_of}
use Rattle.arimaa_model.specs.Marks.{marks_of, removed_by}
use Rattle.arimaa_model.specs.Moves.{after}
use Rattle.arimaa_model.specs.Faults.{apply_result, reached_by}
use Rattle.arimaa_model.specs.Turns.{is_turn}
use Rattle.arimaa_model.specs.declared.fault.ApplyFault.{ApplyFault}
use Rattle.arimaa_model.proofs.Lemmas.Listed.{result-turn}
use Rattle.arimaa_step.proofs.Lemmas.Forward.{is_turn-state}
use Rattle.arimaa_step.proofs.Lemmas.TurnLaws.{is_turn_back, turn_applied}
use Rattle.arimaa_forced.specs.Entries.{steps_with_marks}

-- steps and their right marks
pub with_marks : (b : Board) (noted : List NotedStep) (steps : List Step) → noted_turn noted ≡ steps → noted_marks noted ≡ marks_of b steps → noted ≡ steps_with_marks b steps
unfolding marks_of
with_marks b [] [] same marks = refl
with_marks b [] (s ∷ rest) same marks = cc
with_marks b (m ∷ noted) [] same marks = cc
with_marks b (m ∷ noted) (s ∷ rest) same marks =
    let step : m.step ≡ s = cc in
    let steps : noted_turn noted ≡ rest = cc in
    let others : noted_marks noted ≡ marks_of (after b s) rest = cc in
    let mark : m.mark ≡ removed_by b s = cc in
    let deep = with_marks (after b s) noted rest steps others in
    λ i. record { step = step i; mark = mark i } ∷ deep i

-- a turn has at most four steps
few_steps : (p : Position) (steps : List Step) → is_turn p.board p.side steps ≡ true → length steps ≤ 4
unfolding is_turn
few_steps p steps turn = leb-true (length steps) 4 (and_parts _ _ (and_parts _ _ (and_parts _ _ turn).0).0).1

-- and at least one
pub some_steps : (p : Position) (steps : List Step) → is_turn p.board p.side steps ≡ true → 1 ≤ length steps
unfolding is_turn
some_steps p steps turn = leb-true 1 (length steps) (and_parts _ _ (and_parts _ _ (and_parts _ _ turn).0).0).0

-- the steps are as many with their marks
pub length-marks : (b : Board) (steps : List Step) → length (steps_with_marks b steps) ≡ length steps
length-marks b [] = refl
length-marks b (s ∷ rest) = ap suc (length-marks (after b s) rest)

-- a turn that reaches a position has a step, with its marks too
pub marked-steps : (p r : Position) (steps : List Step) → result_of p steps ≡ Some r → 0 < length (steps_with_marks p.board steps)
marked-steps p r steps reached =
    let some = some_steps p steps (result-turn p steps r reached) in
    let same = length-marks p.board steps in
    omega arith

-- and is not refused
pub never_refused : (p r : Position) (steps : List Step) (Q : Type 0) → result_of p steps ≡ Some r → (e : ApplyFault) → apply_result p steps ≡ Err e → Q
never_refused p r steps Q reached e refused =
    let turn = result-turn p steps r reached in
    let back : is_turn_back p (reverse steps) ≡ true = sym (is_turn-state p steps) ∙ turn in
    let fine = turn_applied p steps (few_steps p steps turn) back in
    not_both (apply_result p steps) (reached_by p (reverse steps)) e fine refused
  where
    not_both : (o : Result Position ApplyFault) (x : Position) (e : ApplyFault) → o ≡ Ok x → o ≡ Err e → Q
    not_both o x e fine refused = cc

-- a result whose error cannot be is none
pub never-err : {X E : Type 0} (o : Result X E) (P : E → Type 0) → IfErr o P → ((e : E) → P e → ⊥) → is_ok o ≡ true
never-err (Ok x) P told none = refl
never-err (Err e) P told none = absurd (none e told)
