-- What a step and the end of a turn answer, in the words of the rules.
use Rattle.std.proofs.Common.{◌≡◌, ◌<◌, ◌≤◌, List, [], ◌∷◌, ◌++◌, Bool, true, false, cond, length, reverse, Option, None, Some, Ok, Err, refl, sym, ◌∙◌, ap, subst, arith}
use Rattle.std.specs.Prelude.{ℕ, ◌&&◌, ◌↔◌, not, nat_le, IsTrue, IsOk, IfOk}
use Rattle.std.specs.Bool.{Decides}
use Rattle.std.proofs.lemmas.Bool.Decides.{Decides-or}
use Rattle.std.proofs.lemmas.Bool.{true≢false, lt-leb, leb-false, le-leb, and_from}
use Rattle.std.proofs.lemmas.List.{length-reverse}
use Rattle.arimaa_board.specs.declared.piece.Color.{Color}
use Rattle.arimaa_board.specs.declared.piece.Piece.{Piece}
use Rattle.arimaa_board.specs.declared.board.Board.{Board}
use Rattle.arimaa_board.specs.declared.position.Position.{Position}
use Rattle.arimaa_board.specs.declared.position.Step.{Step}
use Rattle.arimaa_board.specs.Piece.{other_color}
use Rattle.arimaa_board.specs.Board.{settle, moved}
use Rattle.arimaa_board.specs.Words.{same_squares}
use Rattle.arimaa_model.specs.declared.fault.StepFault.{StepFault}
use Rattle.arimaa_model.specs.declared.fault.StepFault.TheVariants as fault
use Rattle.arimaa_model.specs.Moves.{after, after_to, target}
use Rattle.arimaa_model.specs.Turns.{after_all, has_cutting, has_open_cutting, may_grow, is_turn}
use Rattle.arimaa_model.specs.Relations.{IsTurn, GoesBack}
use Rattle.arimaa_model.specs.Backward.{after_back, cuts_back, grows_back}
use Rattle.arimaa_model.specs.Faults.{step_fault, turn_fault, unless, reached_by, apply_result, rule_of, ends_push, ends_pull}
use Rattle.arimaa_model.proofs.Lemmas.FaultLaws.{after_back-after_all, reverse-last}
use Rattle.arimaa_model.proofs.Lemmas.Growing.{last_fits}
use Rattle.arimaa_model.proofs.Lemmas.RelatedMoves.{goes_back-Decides}
use Rattle.arimaa_model.proofs.Lemmas.RelatedTurns.{cutting-Decides, open_cutting-Decides, turn-Decides}
use Rattle.arimaa_model.proofs.Lemmas.Distinct.{turn-is}
use Rattle.arimaa_step.specs.State.{step_answer, finish_answer, trap_first}
use Rattle.arimaa_model.specs.Marks.{removed_by, IsWithout}
use Rattle.arimaa_step.specs.Future.{MayBegin, IsTurnTo, LosesOnly, LeadsTo}
use Rattle.arimaa_model.proofs.Lemmas.Pushers.{settle_twice}
use Rattle.arimaa_model.proofs.Lemmas.Removals.{removal_law}
use Rattle.arimaa_step.proofs.Walking.{unless_ok, unless_err}
use Rattle.arimaa_step.proofs.Sameness.{color_is}
use Rattle.arimaa_step.proofs.RuleLaws.{the_last_rule}
use Rattle.arimaa_step.proofs.Lemmas.Forward.{may_grow-back, is_turn-state}
use Rattle.arimaa_step.proofs.Lemmas.TurnLaws.{is_turn_back, end_of_turn, decided_by, turn_applied, applied_turn}

-- a value where nothing is at fault
ok_where : {E V : Type 0} (many grows : Bool) (e f : E) (v : V) → IsOk (unless (cond many (Some e) (cond grows None (Some f))) v) ↔ ((many ≡ false) × (grows ≡ true))
ok_where true grows e f v = (λ h. absurd (cc), λ h. absurd (true≢false h.0))
ok_where false true e f v = (λ h. (refl, refl), λ h. refl)
ok_where false false e f v = (λ h. absurd (cc), λ h. absurd (true≢false (sym h.1)))

begins-Decides : (b : Board) (side : Color) (steps : List Step) → Decides (may_grow b side steps) (MayBegin b side steps)
begins-Decides b side steps = Decides-or (has_cutting b side steps) (has_open_cutting b side steps) (cutting-Decides b side steps) (open_cutting-Decides b side steps)

-- a step is accepted where fewer than four came before, and with it the steps can be cut or opened
pub accepted_law : (p : Position) (steps : List Step) (s : Step) → IsOk (step_answer p (reverse steps) s) ↔ ((length steps < 4) × MayBegin p.board p.side (steps ++ s ∷ []))
unfolding step_fault
accepted_law p steps s =
    let long : length (reverse steps) ≡ length steps = length-reverse steps in
    let grows : grows_back p.board p.side (s ∷ reverse steps) ≡ may_grow p.board p.side (steps ++ s ∷ []) =
    ap (grows_back p.board p.side) (sym (reverse-last steps s)) ∙ may_grow-back p.board p.side (steps ++ s ∷ []) in
    let begins = begins-Decides p.board p.side (steps ++ s ∷ []) in
    let ok = ok_where (nat_le 4 (length (reverse steps))) (grows_back p.board p.side (s ∷ reverse steps)) _ _ _ in (
      λ h. let parts = ok.0 h in let few : length (reverse steps) < 4 = leb-false 4 (length (reverse steps)) parts.0 in (omega arith, begins.0 (sym grows ∙ parts.1)),
      λ h. let few : length steps < 4 = h.0 in let less : length (reverse steps) < 4 = omega arith in ok.1 (lt-leb 4 (length (reverse steps)) less, grows ∙ begins.1 h.1),
    )

-- a settled board stays settled
settled_after : (b : Board) (s : Step) → settle b ≡ b → settle (after b s) ≡ after b s
unfolding after
settled_after b s calm = by_target (target s) where
  by_target : (o : Option ℕ) → settle (after_to b s.from o) ≡ after_to b s.from o
  by_target None = calm
  by_target (Some to) = settle_twice (moved b s.from to)

settled_all : (b : Board) (steps : List Step) → settle b ≡ b → settle (after_all b steps) ≡ after_all b steps
settled_all b [] calm = calm
settled_all b (s ∷ rest) calm = settled_all (after b s) rest (settled_after b s calm)

if_ok : {E V : Type 0} (o : Option E) (v : V) (P : V → Type 0) → (o ≡ None → P v) → IfOk (unless o v) P
if_ok None v P h = h refl
if_ok (Some e) v P h = tt

no_fault : {E : Type 0} (many grows : Bool) (e f : E) → cond many (Some e) (cond grows None (Some f)) ≡ None → grows ≡ true
no_fault true grows e f h = absurd (cc)
no_fault false true e f h = refl
no_fault false false e f h = absurd (cc)

without : (m c : Board) (o : Option (Piece × ℕ)) → IsWithout m c o → LosesOnly m c (trap_first o)
without m c None h = h
without m c (Some l) h = h

-- a step that is accepted moves its piece and takes at most one off, the one that is named
pub removed_law : (p : Position) (steps : List Step) (s : Step) → settle p.board ≡ p.board → IfOk (step_answer p (reverse steps) s) (λ done. LeadsTo (after_all p.board steps) s (after (after_all p.board steps) s) done.removed)
unfolding step_fault
removed_law p steps s calm =
    let here = after_all p.board steps in
    let board : after_back p.board (reverse steps) ≡ here = after_back-after_all p.board steps in
    if_ok (step_fault p.board p.side (reverse steps) s) _ (λ done. LeadsTo here s (after here s) done.removed)
    (λ none to at_to.
    let back : grows_back p.board p.side (s ∷ reverse steps) ≡ true = no_fault (nat_le 4 (length (reverse steps))) (grows_back p.board p.side (s ∷ reverse steps)) _ _ none in
    let grows : may_grow p.board p.side (steps ++ s ∷ []) ≡ true = sym (may_grow-back p.board p.side (steps ++ s ∷ [])) ∙ (ap (grows_back p.board p.side) (reverse-last steps s) ∙ back) in
    subst (λ c. LosesOnly (moved here s.from to) (after here s) (trap_first (removed_by c s))) (sym board)
    (without (moved here s.from to) (after here s) (removed_by here s) (removal_law here s to (settled_all p.board steps calm) (last_fits p.board p.side steps s grows) at_to)))

broken_rule : (many g : Bool) (r : StepFault) → cond many (Some fault.Fifth) (cond g None (Some r)) ≡ Some fault.RabbitBack → (g ≡ false) × (r ≡ fault.RabbitBack)
broken_rule true g r e = absurd (cc)
broken_rule false true r e = absurd (cc)
broken_rule false false r e = (refl, cc)

-- the last rule is broken where no other is: a rabbit of the side to move goes backward
pub rabbit_law : (p : Position) (back : List Step) (s : Step) → step_answer p back s ≡ Err fault.RabbitBack → (s.piece.color ≡ p.side) × GoesBack s
unfolding step_fault
rabbit_law p back s h =
    let b = p.board in
    let rule = rule_of (after_back b back) p.side (cuts_back b p.side back) (ends_push b p.side back s) (ends_pull b p.side back s) s in
    let broken = broken_rule (nat_le 4 (length back)) (grows_back b p.side (s ∷ back)) rule (unless_err _ _ fault.RabbitBack h) in
    let last = the_last_rule b p.side back s broken.0 broken.1 in
    (color_is s.piece.color p.side last.0, (goes_back-Decides s).0 last.1)

turn_both : (p : Position) (steps : List Step) → is_turn p.board p.side steps ≡ is_turn_back p (reverse steps)
turn_both p steps = is_turn-state p steps

all_true : (n m : ℕ) (c s : Bool) → n ≤ m → m ≤ 4 → c ≡ true → s ≡ true → (nat_le n m && nat_le m 4 && c && s) ≡ true
all_true n m c s one four cut other = and_from _ _ (and_from _ _ (and_from _ _ (le-leb n m one) (le-leb m 4 four)) cut) other

reached_parts : (p q : Position) (steps : List Step) → q ≡ reached_by p (reverse steps) → (q.board ≡ after_all p.board steps) × (q.side ≡ other_color p.side)
reached_parts p q steps e = (ap (λ r. r.board) e ∙ after_back-after_all p.board steps, ap (λ r. r.side) e)

parts_reached : (p q : Position) (steps : List Step) → q.board ≡ after_all p.board steps → q.side ≡ other_color p.side → reached_by p (reverse steps) ≡ q
parts_reached p q steps board side =
    let one : after_back p.board (reverse steps) ≡ q.board = after_back-after_all p.board steps ∙ sym board in
    λ i. record { board = one i; side = sym side i }

module _ (p : Position) (steps : List Step) (few : length steps ≤ 4) (q : Position) where
  back_few : length (reverse steps) ≤ 4
  back_few = omega (arith, length-reverse steps)

  ended : (1 ≤ length (reverse steps)) × (cuts_back p.board p.side (reverse steps) ≡ true) × (not (same_squares (after_back p.board (reverse steps)) p.board) ≡ true) → q ≡ reached_by p (reverse steps) → IsTurnTo p steps q
  ended parts e =
      let turn : is_turn p.board p.side steps ≡ true = turn_both p steps ∙ all_true 1 (length (reverse steps)) (cuts_back p.board p.side (reverse steps)) (not (same_squares (after_back p.board (reverse steps)) p.board)) parts.0 back_few parts.1 parts.2 in
      let reached = reached_parts p q steps e in
      (subst (λ c. IsTurn p.board p.side steps c) (sym reached.0) ((turn-Decides p.board p.side steps).0 turn), reached.1)

  -- the end of a turn answers exactly the position that the turn leads to
  pub finish_law : (finish_answer p (reverse steps) ≡ Ok q) ↔ IsTurnTo p steps q
  finish_law = (
    λ h. let ok = unless_ok (turn_fault p.board p.side (reverse steps)) (reached_by p (reverse steps)) q h in ended (decided_by p.board p.side (reverse steps) ok.0) (sym ok.1),
    λ h.
        let turn : is_turn_back p (reverse steps) ≡ true = sym (turn_both p steps) ∙ turn-is p.board p.side steps q.board h.0 in
        let none = (end_of_turn p (reverse steps) turn).0 in
        ap (λ o. unless o (reached_by p (reverse steps))) none ∙ ap (λ r. Ok r) (parts_reached p q steps (sym h.0.leads) h.1),
  )

  -- a turn is applied exactly to the position that it leads to
  pub apply_law : (apply_result p steps ≡ Ok q) ↔ IsTurnTo p steps q
  apply_law = (
    λ h. let ok = applied_turn p steps q h in ended (ok.0, ok.1, ok.2) ok.3,
    λ h.
        let turn : IsTrue (is_turn_back p (reverse steps)) = sym (turn_both p steps) ∙ turn-is p.board p.side steps q.board h.0 in
        turn_applied p steps few turn ∙ ap (λ r. Ok r) (parts_reached p q steps (sym h.0.leads) h.1),
  )
