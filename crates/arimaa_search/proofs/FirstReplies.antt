-- The first of the next positions is what the first turn brings about whose result is not barred.
use Rattle.std.proofs.Common.{◌≡◌, ◌<◌, List, [], ◌∷◌, ◌++◌, length, drop, Option, None, Some, Result, Ok, Bool, true, false, cond, refl, sym, ◌∙◌, ap, subst, arith, true≢false}
use Rattle.std.specs.Prelude.{IfNone}
use Rattle.std.specs.List.{find, filter, filter_map, cons_option, list_any}
use Rattle.std.specs.Option.{option_map_or}
use Rattle.arimaa_board.specs.declared.position.Position.{Position}
use Rattle.arimaa_board.specs.declared.position.Step.{Step}
use Rattle.arimaa_model.specs.Results.{first_occurrences, position_of, results, result_of, turn_lists, next}
use Rattle.arimaa_model.specs.Turns.{after_all, is_turn}
use Rattle.arimaa_model.proofs.Lemmas.RelatedTurns.{turn-Decides}
use Rattle.arimaa_step.specs.Future.{IsTurnTo}
use Rattle.arimaa_region.specs.Same.{same_position, same_position-Decides, firsts}
use Rattle.arimaa_results.specs.Conditions.{brings_passing, first_passing}
use Rattle.arimaa_results.proofs.Lemmas.Firsts.{filter-firsts}
use Rattle.arimaa_results.proofs.Lemmas.Found.{filter-any}
use Rattle.arimaa_results.specs.Ahead.{is_unbarred}
use Rattle.arimaa_results.proofs.Lemmas.Given.{head_of}

pub begins : {X : Type 0} (q : X) (xs : List X) → head_of xs ≡ Some q → xs ≡ q ∷ drop 1 xs
begins q [] e = absurd (cc)
begins q (x ∷ xs) e = let same : x ≡ q = cc in ap (λ y. y ∷ xs) same

-- first occurrences begin as the list does
front-firsts : {X : Type 0} (same : X → X → Bool) (q : X) (qs ys : List X) → head_of (firsts same (q ∷ qs) ys) ≡ Some q
front-firsts same q qs [] = refl
front-firsts same q qs (y ∷ ys) =
    elim (list_any (same y) (q ∷ qs)) as (λ v. head_of (firsts same (cond v (q ∷ qs) (q ∷ (qs ++ y ∷ []))) ys) ≡ Some q) [ true ↦ front-firsts same q qs ys | false ↦ front-firsts same q (qs ++ y ∷ []) ys ]

-- among the values that a function gives along a list, those that pass begin with that of the first element whose value passes
front-passing : {X Y : Type 0} (passes : Y → Bool) (g : X → Option Y) (x : X) (y : Y) (xs : List X) → find (λ z. option_map_or passes (g z) false) xs ≡ Some x → g x ≡ Some y → head_of (filter passes (filter_map g xs)) ≡ Some y
front-passing passes g x y [] found is = absurd (cc)
front-passing passes g x y (z ∷ zs) found is =
    elim (g z) as (λ o. g z ≡ o → cond (option_map_or passes o false) (Some z) (find (λ w. option_map_or passes (g w) false) zs) ≡ Some x → head_of (filter passes (cons_option o (filter_map g zs))) ≡ Some y) [
      | None ↦ λ _ later. front-passing passes g x y zs later is
      | Some r ↦ λ here. elim (passes r) as (λ v. cond v (Some z) (find (λ w. option_map_or passes (g w) false) zs) ≡ Some x → head_of (cond v (r ∷ filter passes (filter_map g zs)) (filter passes (filter_map g zs))) ≡ Some y) [
        | true ↦ λ first. (let same : z ≡ x = cc in sym here ∙ (ap g same ∙ is))
        | false ↦ λ later. front-passing passes g x y zs later is
      ]
    ] refl found

firsts-is : (qs xs : List Position) → first_occurrences qs xs ≡ firsts same_position qs xs
firsts-is qs [] = refl
firsts-is qs (x ∷ xs) = firsts-is (cond (list_any (same_position x) qs) qs (qs ++ x ∷ [])) xs

module _ (barred : List Position) (p : Position) where
  -- with a first turn that brings about what is not barred
  pub first-next : (steps : List Step) (q : Position) → Some steps ≡ first_passing (is_unbarred barred) p → result_of p steps ≡ Some q → next barred p ≡ q ∷ drop 1 (next barred p)
  unfolding first_passing results
  first-next steps q found is =
      let xs = filter_map (result_of p) turn_lists in
      let passing : filter (is_unbarred barred) xs ≡ q ∷ drop 1 (filter (is_unbarred barred) xs) = begins q (filter (is_unbarred barred) xs) (front-passing (is_unbarred barred) (result_of p) steps q turn_lists (sym found) is) in
      let kept : next barred p ≡ firsts same_position [] (filter (is_unbarred barred) xs) =
      ap (filter (is_unbarred barred)) (firsts-is [] xs) ∙ filter-firsts same_position same_position-Decides (is_unbarred barred) [] xs in
      begins q (next barred p) (ap head_of kept ∙ (ap (λ l. head_of (firsts same_position [] l)) passing ∙ front-firsts same_position q [] (drop 1 (filter (is_unbarred barred) xs))))

  -- with none
  pub none-next : false ≡ list_any (is_unbarred barred) (results p) → next barred p ≡ []
  none-next fails = empty (next barred p) (λ more. true≢false (sym (filter-any (is_unbarred barred) (results p) more) ∙ sym fails)) where
    empty : (l : List Position) → (0 < length l → ⊥) → l ≡ []
    empty [] some = refl
    empty (x ∷ xs) some = absurd (some (omega arith))

-- the steps bring something about
pub record Brings (p : Position) (steps : List Step) : Type 0 where
  pub reached : Position
  pub is : result_of p steps ≡ Some reached

-- steps whose result passes a test have one
pub brings : (passes : Position → Bool) (p : Position) (steps : List Step) → brings_passing passes p steps ≡ true → Brings p steps
brings passes p steps h =
    elim (result_of p steps) as (λ o. result_of p steps ≡ o → option_map_or passes o false ≡ true → Brings p steps) [
      | None ↦ λ _ e. absurd (true≢false (sym e))
      | Some q ↦ λ is _. record { reached = q; is = is }
    ] refl h

-- steps with a result are a turn to it
pub leads : (p : Position) (steps : List Step) (q : Position) → result_of p steps ≡ Some q → IsTurnTo p steps q
leads p steps q is =
    elim (is_turn p.board p.side steps) as (λ v. is_turn p.board p.side steps ≡ v → cond v (Some (position_of (after_all p.board steps) p)) None ≡ Some q → IsTurnTo p steps q) [
      | true ↦ λ turn e. (let same : position_of (after_all p.board steps) p ≡ q = cc in subst (IsTurnTo p steps) same ((turn-Decides p.board p.side steps).0 turn, refl))
      | false ↦ λ _ e. absurd (cc)
    ] refl is

pub same_ok : {X E : Type 0} (r : Result X E) (x y : X) → r ≡ Ok x → r ≡ Ok y → x ≡ y
same_ok r x y one other = cc

pub if_none : {X Q : Type 0} (o : Option X) → Q → IfNone o Q
if_none None q = q
if_none (Some x) q = tt
