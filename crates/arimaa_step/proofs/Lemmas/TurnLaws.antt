-- Whole turns: what is applied is exactly what can be cut and changes the board.
use Rattle.std.proofs.Common.{◌≡◌, ℕ, ◌+◌, ◌<◌, ◌≤◌, List, [], ◌∷◌, ◌++◌, Bool, true, false, cond, length, reverse, Option, None, Some, Ok, refl, sym, ◌∙◌, ap, arith, ⊎_elim, append_assoc}
use Rattle.std.specs.Prelude.{◌&&◌, not, nat_le, IsTrue}
use Rattle.std.proofs.lemmas.Bool.{or_left, and_parts, lt-leb, true≢false}
use Rattle.std.proofs.lemmas.List.{reverse-append, append-nil}
use Rattle.arimaa_board.specs.declared.piece.Color.{Color}
use Rattle.arimaa_board.specs.declared.board.Board.{Board}
use Rattle.arimaa_board.specs.Words.{same_squares}
use Rattle.arimaa_board.specs.declared.position.Position.{Position}
use Rattle.arimaa_board.specs.declared.position.Step.{Step}
use Rattle.arimaa_model.specs.declared.fault.StepFault.{StepFault}
use Rattle.arimaa_model.specs.declared.fault.TurnFault.{TurnFault}
use Rattle.arimaa_model.specs.declared.fault.TurnFault.TheVariants.{Unfinished, Same}
use Rattle.arimaa_model.specs.Backward.{after_back, cuts_back, opens_back, grows_back}
use Rattle.arimaa_model.specs.Faults.{step_fault, turn_fault, first_fault, first_fault_after, apply_result, judged_turn, reached_by}
use Rattle.arimaa_model.proofs.Lemmas.FirstPlaces.{grows-rest}

turned_over : (s : Step) (rest before : List Step) → reverse (s ∷ rest) ++ before ≡ reverse rest ++ (s ∷ before)
turned_over s rest before = ap (λ xs. xs ++ before) (reverse-append (s ∷ []) rest) ∙ append_assoc (reverse rest) (s ∷ []) before

-- steps that grow to the end have no fault
none_after : (b : Board) (side : Color) (before rest : List Step) → grows_back b side (reverse rest ++ before) ≡ true → length before + length rest ≤ 4 → first_fault_after b side before rest ≡ None
unfolding first_fault_after step_fault
none_after b side before [] h few = refl
none_after b side before (s ∷ rest) h few =
    let on : grows_back b side (reverse rest ++ (s ∷ before)) ≡ true = sym (ap (grows_back b side) (turned_over s rest before)) ∙ h in
    let grows : grows_back b side (s ∷ before) ≡ true = grows-rest b side (reverse rest) (s ∷ before) on in
    let less : length before < 4 = omega arith in
    let short : nat_le 4 (length before) ≡ false = lt-leb 4 (length before) less in
    let later : first_fault_after b side (s ∷ before) rest ≡ None = none_after b side (s ∷ before) rest on (omega arith) in
    rw (short, grows) later

-- the test for a turn, over the steps with the last one first
abbrev pub is_turn_back : Position → List Step → Bool
is_turn_back p back = nat_le 1 (length back) && nat_le (length back) 4 && cuts_back p.board p.side back && not (same_squares (after_back p.board back) p.board)

no_turn_fault : (b : Board) (side : Color) (s : Step) (before : List Step) → cuts_back b side (s ∷ before) ≡ true → not (same_squares (after_back b (s ∷ before)) b) ≡ true → turn_fault b side (s ∷ before) ≡ None
no_turn_fault b side s before cut other = rw cut (not_same (same_squares (after_back b (s ∷ before)) b) other) where
  not_same : (v : Bool) → not v ≡ true → cond v (Some Same) None ≡ None
  not_same true h = absurd (true≢false (sym h))
  not_same false h = refl

pub end_of_turn : (p : Position) (back : List Step) → IsTrue (is_turn_back p back) → (turn_fault p.board p.side back ≡ None) × (cuts_back p.board p.side back ≡ true)
end_of_turn p [] h = absurd (true≢false (sym h))
end_of_turn p (s ∷ before) h =
    let b = p.board in
    let few = nat_le 1 (length (s ∷ before)) && nat_le (length (s ∷ before)) 4 in
    let cut = cuts_back b p.side (s ∷ before) in
    let outer = and_parts (few && cut) (not (same_squares (after_back b (s ∷ before)) b)) h in
    let inner = and_parts few cut outer.0 in
    (no_turn_fault b p.side s before inner.1 outer.1, inner.1)

-- a turn is applied
pub turn_applied : (p : Position) (steps : List Step) → length steps ≤ 4 → IsTrue (is_turn_back p (reverse steps)) → apply_result p steps ≡ Ok (reached_by p (reverse steps))
unfolding apply_result
turn_applied p steps few h =
    let ends = end_of_turn p (reverse steps) h in
    let grows : grows_back p.board p.side (reverse steps ++ []) ≡ true = ap (grows_back p.board p.side) (append-nil (reverse steps)) ∙ or_left (cuts_back p.board p.side (reverse steps)) (opens_back p.board p.side (reverse steps)) ends.1 in
    let first : first_fault p.board p.side steps ≡ None = none_after p.board p.side [] steps grows (omega arith) in
    rw (first, ends.0) refl

pub decided_by : (b : Board) (side : Color) (back : List Step) → turn_fault b side back ≡ None → (1 ≤ length back) × (cuts_back b side back ≡ true) × (not (same_squares (after_back b back) b) ≡ true)
decided_by b side [] h = absurd (cc)
decided_by b side (s ∷ before) h = parts (cuts_back b side (s ∷ before)) (same_squares (after_back b (s ∷ before)) b) h where
  parts : (u v : Bool) → cond (not u) (Some Unfinished) (cond v (Some Same) None) ≡ None → (1 ≤ length (s ∷ before)) × (u ≡ true) × (not v ≡ true)
  parts true false h = (omega arith, refl, refl)
  parts true true h = absurd (cc)
  parts false v h = absurd (cc)

judged_ok : (o : Option (ℕ × StepFault)) (w : Option TurnFault) (q r : Position) → judged_turn o w q ≡ Ok r → (w ≡ None) × (q ≡ r)
judged_ok (Some e) w q r h = absurd (cc)
judged_ok None (Some e) q r h = absurd (cc)
judged_ok None None q r h = (refl, cc)

-- what is applied can be cut, changes the board, and reaches the board after its steps
pub applied_turn : (p : Position) (steps : List Step) (q : Position) → apply_result p steps ≡ Ok q → (1 ≤ length (reverse steps)) × (cuts_back p.board p.side (reverse steps) ≡ true) × (not (same_squares (after_back p.board (reverse steps)) p.board) ≡ true) × (q ≡ reached_by p (reverse steps))
unfolding apply_result
applied_turn p steps q h =
    let ok = judged_ok (first_fault p.board p.side steps) (turn_fault p.board p.side (reverse steps)) (reached_by p (reverse steps)) q h in
    let parts = decided_by p.board p.side (reverse steps) ok.0 in
    (parts.0, parts.1, parts.2, sym ok.1)
