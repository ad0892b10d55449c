-- What the walk finds from a state.
use Rattle.std.proofs.Common.{◌≡◌, ◌-◌, ◌<◌, ◌∷◌, [], ℕ, zero, suc, List, length, Bool, true, false, cond, Option, None, Some, refl, sym, ◌∙◌, ap, arith}
use Rattle.std.specs.Option.{option_map, option_map_or, option_or}
use Rattle.arimaa_board.specs.declared.position.Position.{Position}
use Rattle.arimaa_board.specs.declared.position.Step.{Step}
use Rattle.arimaa_step.specs.declared.state.TurnState.{TurnState}
use Rattle.arimaa_step.specs.Next.{state_end}
use Rattle.arimaa_results.specs.Ahead.{value_of}
use Rattle.arimaa_results.specs.NextStates.{next_pairs, last_of}
use Rattle.arimaa_results.specs.Walk.{first_given, found_now, found_from, found_last}

module _ (passes : Position → Bool) where
  -- what is found by a step and n more
  abbrev pub found_by : ℕ → Step × TurnState → Option (List Step)
  found_by n pr = option_map (λ rest. pr.0 ∷ rest) (found_from passes n pr.1)

  pub found_from-zero : (st : TurnState) → found_from passes 0 st ≡ found_now passes (value_of (state_end st))
  unfolding found_from
  found_from-zero st = refl

  found_from-suc : (n : ℕ) (st : TurnState) → found_from passes (suc n) st ≡ first_given (found_by n) (next_pairs st)
  unfolding found_from
  found_from-suc n st = refl

  pub found_from-more : (left : ℕ) (st : TurnState) (pairs : List (Step × TurnState)) → 0 < left → pairs ≡ next_pairs st → first_given (found_by (left - 1)) pairs ≡ found_from passes left st
  found_from-more left st pairs some all =
      let more : suc (left - 1) ≡ left = omega arith in
      ap (first_given (found_by (left - 1))) all ∙ (sym (found_from-suc (left - 1) st) ∙ ap (λ n. found_from passes n st) more)

  -- what a step and the end of the turn after it give, one after another
  last_given : (pairs : List (Step × TurnState)) → first_given (found_by 0) pairs ≡ first_given (found_last passes) (last_of pairs)
  last_given [] = refl
  last_given (pr ∷ pairs) = λ i. option_or (option_map (λ rest. pr.0 ∷ rest) (found_from-zero pr.1 i)) (last_given pairs i)

  pub found_from-last : (st : TurnState) (pairs : List (Step × TurnState)) → pairs ≡ next_pairs st → first_given (found_last passes) (last_of pairs) ≡ found_from passes 1 st
  found_from-last st pairs all = ap (λ l. first_given (found_last passes) (last_of l)) all ∙ sym (found_from-suc 0 st ∙ last_given (next_pairs st))

  -- what is found has as many steps as were asked for
  given_has : {X : Type 0} (f : X → Option (List Step)) (n : ℕ) → ((x : X) (ys : List Step) → f x ≡ Some ys → length ys ≡ n) → (xs : List X) (ys : List Step) → first_given f xs ≡ Some ys → length ys ≡ n
  given_has f n each [] ys found = cc
  given_has f n each (x ∷ xs) ys found =
      elim (f x) as (λ o. f x ≡ o → option_or o (first_given f xs) ≡ Some ys → length ys ≡ n) [
        | None ↦ λ _ later. given_has f n each xs ys later
        | Some zs ↦ λ here is. each x ys (here ∙ is)
      ] refl found

  mapped_has : (s : Step) (n : ℕ) (o : Option (List Step)) (ys : List Step) → ((zs : List Step) → o ≡ Some zs → length zs ≡ n) → option_map (λ rest. s ∷ rest) o ≡ Some ys → length ys ≡ suc n
  mapped_has s n None ys each found = cc
  mapped_has s n (Some zs) ys each found =
      let is : s ∷ zs ≡ ys = cc in
      sym (ap length is) ∙ ap suc (each zs refl)

  now_has : (v : Bool) (ys : List Step) → cond v (Some []) None ≡ Some ys → length ys ≡ 0
  now_has true ys found = let is : [] ≡ ys = cc in sym (ap (length {A = Step}) is)
  now_has false ys found = cc

  pub found_from-length : (n : ℕ) (st : TurnState) (ys : List Step) → found_from passes n st ≡ Some ys → length ys ≡ n
  found_from-length zero st ys found = now_has (option_map_or passes (value_of (state_end st)) false) ys (sym (found_from-zero st) ∙ found)
  found_from-length (suc n) st ys found =
      given_has (found_by n) (suc n) (λ pr zs is. mapped_has pr.0 n (found_from passes n pr.1) zs (found_from-length n pr.1) is) (next_pairs st) ys (sym (found_from-suc n st) ∙ found)

  -- a turn that a step begins, where the rest was found
  pub found_by_step : (n : ℕ) → n < 4 → (s : Step) (next : TurnState) (rest turn : List Step) (left : List (Step × TurnState)) → Some rest ≡ found_from passes n next → (length rest < 4 → turn ≡ s ∷ rest) → Some turn ≡ first_given (found_by n) ((s, next) ∷ left)
  found_by_step n few s next rest turn left found made =
      let long : length rest ≡ n = found_from-length n next rest (sym found) in
      let is : turn ≡ s ∷ rest = made (omega arith) in
      ap Some is ∙ ap (λ o. option_or (option_map (λ others. s ∷ others) o) (first_given (found_by n) left)) found
