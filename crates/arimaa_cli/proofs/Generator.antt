-- The turns that make plays.
use Rattle.std.proofs.Common.{◌≡◌, ℕ, zero, suc, ◌%◌, ◌≤◌, ◌<◌, List, [], ◌∷◌, ◌++◌, length, Option, None, Some, Bool, true, false, not, inl, inr, refl, sym, ◌∙◌, ap, arith}
use Rattle.std.specs.Prelude.{Result, Ok, slice_get, nat_le}
use Rattle.std.proofs.lemmas.Option.{slice_get_past}
use Rattle.std.proofs.lemmas.Bool.{not-true}
use Rattle.std.proofs.lemmas.Bool.Decides.{nat_tests}
use Rattle.arimaa_board.specs.declared.position.Position.{Position}
use Rattle.arimaa_board.specs.declared.position.Step.{Step}
use Rattle.arimaa_board.specs.declared.ending.Ending.{Ending}
use Rattle.arimaa_model.specs.DecidedPositions.{decided}
use Rattle.arimaa_model.specs.Faults.{apply_result}
use Rattle.arimaa_model.specs.Game.{barred_by, count_in, ended_for, ending, ending_at, lawful_at, present}
use Rattle.arimaa_model.specs.Results.{next, position_of, result_of, results, stands_in}
use Rattle.arimaa_model.specs.Turns.{after_all, is_turn}
use Rattle.arimaa_model.proofs.Lemmas.Barring.{next-lawful, once-unbarred}
use Rattle.arimaa_model.proofs.Lemmas.Lists.{or-none}
use Rattle.arimaa_model.proofs.Lemmas.Listed.{result-turn}
use Rattle.arimaa_model.proofs.Lemmas.Members.{In, In-filter}
use Rattle.arimaa_model.proofs.Lemmas.RelatedTurns.{turn-Decides}
use Rattle.arimaa_record.specs.declared.label.Label.{Label}
use Rattle.arimaa_record.specs.Label.{next_label}
use Rattle.arimaa_step.proofs.Lemmas.Outcomes.{apply_law}
use Rattle.arimaa_game.specs.Play.{Play, ending_of, play_outcome}
use Rattle.arimaa_cli.specs.Commands.Make.{GoesOnAt, IsMadeFrom, IsPicked, number_after, turn_line}
use Rattle.arimaa_cli.specs.Commands.Make.IsMadeFrom.{turn as one_more}

pub in_at : (xs : List Position) (k : ℕ) (x : Position) → slice_get xs k ≡ Some x → In x xs
in_at [] k x e = let past : slice_get {X = Position} [] k ≡ None = slice_get_past {X = Position} [] k (omega arith) in cc
in_at (y ∷ ys) zero x e = inl (let same : y ≡ x = cc in sym same)
in_at (y ∷ ys) (suc k) x e = inr (in_at ys k x e)

pub same_place : (xs ys : List Position) (n m : ℕ) (x : Position) → xs ≡ ys → m ≡ length xs → slice_get xs (n % m) ≡ Some x → slice_get ys (n % length ys) ≡ Some x
same_place xs ys n m x e f g = let size : length xs ≡ length ys = ap length e in cc

-- a game that no word has closed ends by the rules
pub open_ending : (g : Play) → g.closing ≡ None → ending_of g ≡ ending g.history
unfolding ending_of
open_ending g e = rw e (or-none (ending g.history))

goes_on : (p : Position) (o : Option Ending) (qs : List Position) → ended_for p o qs ≡ None → 0 < length qs
goes_on p (Some e) qs h = cc
goes_on p None [] h = cc
goes_on p None (q ∷ qs) h = omega arith

-- in a game that goes on there is a next position
pub some_next : (h : List Position) (p : Position) → ending h ≡ None → present h ≡ Some p → 0 < length (next (barred_by h) p)
unfolding ending_at
some_next h p on last = rw next-lawful (goes_on p (decided p) (lawful_at h p) (rw last at on))

-- the first turn to a position of the list may be played
pub playable : (g : Play) (p q : Position) (turn : List Step) (k : ℕ) → ending_of g ≡ None → present g.history ≡ Some p
    → slice_get (next (barred_by g.history) p) k ≡ Some q → result_of p turn ≡ Some q → play_outcome g turn ≡ Ok q
unfolding play_outcome
playable g p q turn k on last place reaches =
    let is : is_turn p.board p.side turn ≡ true = result-turn p turn q reaches in
    let rules = (turn-Decides p.board p.side turn).0 is in
    let found = rw is at reaches in
    let there : position_of (after_all p.board turn) p ≡ q = cc in
    let accepted : apply_result p turn ≡ Ok (position_of (after_all p.board turn) p) = (apply_law p turn rules.few _).1 (rules, refl) in
    let reached : apply_result p turn ≡ Ok q = accepted ∙ ap (λ (x : Position). Ok x) there in
    let member = in_at (next (barred_by g.history) p) k q place in
    let free = (In-filter (λ x. not (stands_in (barred_by g.history) x)) q (results p) member).1 in
    let once : count_in g.history q ≤ 1 = once-unbarred g.history q (not-true _ free) in
    let test : nat_le 2 (count_in g.history q) ≡ false = grind (arith, nat_tests) in
    rw (on, last, reached, test) refl

-- one turn more, and what becomes of the record after it
pub made_on : (n left number : ℕ) (due : Label) (h : List Position) (text : List ℕ) (p q : Position) (steps : List Step) (made : Result (List ℕ) Position)
    → left ≡ suc n → GoesOnAt h p → IsPicked (number_after number) (barred_by h) p q steps
    → (m : ℕ) (d : Label) (k : List Position) (t : List ℕ) → m ≡ number_after number → d ≡ next_label due → k ≡ h ++ q ∷ [] → t ≡ text ++ turn_line due p steps
    → IsMadeFrom n m d k t made → IsMadeFrom left number due h text made
made_on n left number due h text p q steps made count goes picked m d k t em ed ek et rest =
    rw count (one_more n number due h text p q steps made goes picked (rw (em, ed, ek, et) at rest))
