-- What the first turn whose result passes says of the results.
use Rattle.std.proofs.Common.{◌≡◌, ◌<◌, List, [], ◌∷◌, length, Option, None, Some, Bool, true, false, cond, ◌||◌, ⊎_elim, refl, sym, ◌∙◌, ap, arith, true≢false}
use Rattle.std.specs.List.{find, filter, filter_map, cons_option, list_any}
use Rattle.std.specs.Option.{option_map_or, is_some}
use Rattle.arimaa_board.specs.declared.position.Position.{Position}
use Rattle.arimaa_board.specs.declared.position.Step.{Step}
use Rattle.arimaa_model.specs.Results.{same_position, stands_in, first_occurrences, results, result_of, turn_lists}
use Rattle.arimaa_model.specs.Strategies.{reaches, first_turn}
use Rattle.arimaa_model.proofs.Lemmas.Members.{any-In, In-any, find-is}
use Rattle.arimaa_model.proofs.Lemmas.Positions.{same_position-Decides, In-first, first-new}
use Rattle.arimaa_results.specs.Conditions.{brings_passing, first_passing}

same-tests : (x y : Bool) → (x ≡ true → y ≡ true) → (y ≡ true → x ≡ true) → x ≡ y
same-tests true y to from = sym (to refl)
same-tests false true to from = from refl
same-tests false false to from = refl

-- one is found where some result passes
find-any : {X Y : Type 0} (passes : Y → Bool) (g : X → Option Y) (xs : List X) → is_some (find (λ x. option_map_or passes (g x) false) xs) ≡ list_any passes (filter_map g xs)
find-any passes g [] = refl
find-any passes g (x ∷ xs) =
    elim (g x) as (λ o. is_some (cond (option_map_or passes o false) (Some x) (find (λ y. option_map_or passes (g y) false) xs)) ≡ list_any passes (cons_option o (filter_map g xs))) [
      | None ↦ find-any passes g xs
      | Some y ↦ elim (passes y) as (λ v. is_some (cond v (Some x) (find (λ z. option_map_or passes (g z) false) xs)) ≡ (v || list_any passes (filter_map g xs))) [ true ↦ refl | false ↦ find-any passes g xs ]
    ]

-- first occurrences have the members of the list
any-first : (passes : Position → Bool) (xs : List Position) → list_any passes (first_occurrences [] xs) ≡ list_any passes xs
any-first passes xs =
    same-tests _ _
    (λ some. let found = any-In passes (first_occurrences [] xs) some in
    In-any passes found.0 xs (⊎_elim (λ none. absurd none) (λ i. i) (In-first found.0 [] xs found.1)) found.2)
    (λ some. let found = any-In passes xs some in In-any passes found.0 (first_occurrences [] xs) (first-new found.0 [] xs found.1) found.2)

module _ (passes : Position → Bool) (p : Position) where
  -- a turn is found exactly where some result passes
  pub first_passing-some : is_some (first_passing passes p) ≡ list_any passes (results p)
  unfolding first_passing results
  first_passing-some = find-any passes (result_of p) turn_lists ∙ sym (any-first passes (filter_map (result_of p) turn_lists))

  -- what is found brings about what passes
  pub first_passing-brings : (steps : List Step) → Some steps ≡ first_passing passes p → brings_passing passes p steps ≡ true
  unfolding first_passing
  first_passing-brings steps found = (find-is (brings_passing passes p) steps turn_lists (sym found)).1

  -- the same of an answer that is the first turn
  pub found_some : (o : Option (List Step)) → o ≡ first_passing passes p → is_some o ≡ list_any passes (results p)
  found_some o first = ap is_some first ∙ first_passing-some

same_position-sym : (r q : Position) → same_position r q ≡ same_position q r
same_position-sym r q = same-tests _ _ (λ e. (same_position-Decides q r).1 (sym ((same_position-Decides r q).0 e))) (λ e. (same_position-Decides r q).1 (sym ((same_position-Decides q r).0 e)))

module _ (p q : Position) where
  same_reach : (o : Option Position) → option_map_or (λ r. same_position r q) o false ≡ reaches q o
  same_reach None = refl
  same_reach (Some r) = refl

  pub first_turn-is : first_passing (λ r. same_position r q) p ≡ first_turn p q
  unfolding first_passing first_turn
  first_turn-is = λ i. find (λ steps. same_reach (result_of p steps) i) turn_lists

  pub any-stands : (qs : List Position) → list_any (λ r. same_position r q) qs ≡ stands_in qs q
  any-stands qs = λ i. list_any (λ r. same_position-sym r q i) qs

  brought : (o : Option Position) → option_map_or (λ r. same_position r q) o false ≡ true → o ≡ Some q
  brought None h = absurd (true≢false (sym h))
  brought (Some r) h = ap Some ((same_position-Decides r q).0 h)

  pub brings-reached : (steps : List Step) → brings_passing (λ r. same_position r q) p steps ≡ true → result_of p steps ≡ Some q
  brings-reached steps h = brought (result_of p steps) h

-- some element passes exactly where the filter keeps one
pub any-filter : {X : Type 0} (t : X → Bool) (xs : List X) → list_any t xs ≡ true → 0 < length (filter t xs)
any-filter t [] h = absurd (true≢false (sym h))
any-filter t (x ∷ xs) h = elim (t x) as (λ v. (v || list_any t xs) ≡ true → 0 < length (cond v (x ∷ filter t xs) (filter t xs))) [ true ↦ λ _. omega arith | false ↦ any-filter t xs ] h

pub filter-any : {X : Type 0} (t : X → Bool) (xs : List X) → 0 < length (filter t xs) → list_any t xs ≡ true
filter-any t [] some = absurd (omega arith)
filter-any t (x ∷ xs) some = elim (t x) as (λ v. 0 < length (cond v (x ∷ filter t xs) (filter t xs)) → (v || list_any t xs) ≡ true) [ true ↦ λ _. refl | false ↦ filter-any t xs ] some

-- every element passes a test that is always true
pub any-positive : {X : Type 0} (xs : List X) → list_any (λ _. true) xs ≡ true → 0 < length xs
any-positive [] h = absurd (true≢false (sym h))
any-positive (x ∷ xs) h = omega arith

pub positive-any : {X : Type 0} (xs : List X) → 0 < length xs → list_any (λ _. true) xs ≡ true
positive-any [] some = absurd (omega arith)
positive-any (x ∷ xs) some = refl
