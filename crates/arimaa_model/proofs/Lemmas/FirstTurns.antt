-- The turn of an entry is the first one to the first place of next that has the rank.
use Rattle.std.proofs.Common.{◌≡◌, ℕ, suc, ◌-◌, arith, List, [], ◌∷◌, ◌++◌, Option, None, Some, Bool, true, false, cond, not, ◌&&◌, inl, inr, refl, sym, ◌∙◌, ap, subst, true≢false}
use Rattle.std.specs.List.{find, filter, filter_map, cons_option}
use Rattle.std.specs.Option.{option_or, option_and_then, unwrap_or}
use Rattle.std.proofs.lemmas.List.Folds.{find-append}
use Rattle.std.proofs.lemmas.Bool.{and_from, false_from_ne_true, both_ways}
use Rattle.std.specs.Cmp.{both_ways as same_tests}
use Rattle.arimaa_board.specs.declared.piece.Color.{Color}
use Rattle.arimaa_board.specs.Board.{same_color}
use Rattle.arimaa_board.specs.declared.position.Position.{Position}
use Rattle.arimaa_board.specs.declared.position.Step.{Step}
use Rattle.arimaa_model.specs.DecidedPositions.{decided}
use Rattle.arimaa_model.specs.Results.{stands_in, with_new, first_occurrences, results, result_of, turn_lists, next}
use Rattle.arimaa_model.specs.Wins.{wins}
use Rattle.arimaa_model.specs.Strategies.{result_at}
use Rattle.arimaa_model.specs.Ranks.{IsRank, rank_within, has_rank}
use Rattle.arimaa_model.specs.Strategies.{brings, first_best, reaches, first_turn, entry_of, IsOpen}
use Rattle.arimaa_model.proofs.Lemmas.Members.{In, In-filter, filter-In, find-is, find-some}
use Rattle.arimaa_model.proofs.Lemmas.Positions.{same_position-Decides, same_position-same, stands-In, In-stands, first-new}
use Rattle.arimaa_model.proofs.Lemmas.Ranking.{best-exact, has_rank-is, rank-is, own-rank}
use Rattle.arimaa_model.proofs.Lemmas.Lists.{or-none, or_assoc}

abbrev passes : {Y : Type 0} → (Y → Bool) → Option Y → Bool
passes t None = false
passes t (Some y) = t y

-- first occurrences keep the first that passes
find-first_occurrences : (t : Position → Bool) (qs xs : List Position) → find t (first_occurrences qs xs) ≡ option_or (find t qs) (find t xs)
find-first_occurrences t qs [] = sym (or-none (find t qs))
find-first_occurrences t qs (x ∷ xs) =
    find-first_occurrences t (with_new qs x) xs
    ∙ elim (stands_in qs x) as (λ v. stands_in qs x ≡ v → option_or (find t (cond v qs (qs ++ x ∷ []))) (find t xs) ≡ option_or (find t qs) (cond (t x) (Some x) (find t xs))) [
      | true ↦ λ there. elim (t x) as (λ w. t x ≡ w → option_or (find t qs) (find t xs) ≡ option_or (find t qs) (cond w (Some x) (find t xs))) [
        | true ↦ λ good. let found = find-some t x qs (stands-In qs x there) good in rw found.1 refl
        | false ↦ λ _. refl
      ] refl
      | false ↦ λ _.
          ap (λ o. option_or o (find t xs)) (find-append t qs (x ∷ []))
          ∙ (or_assoc (find t qs) (cond (t x) (Some x) None) (find t xs)
          ∙ elim (t x) as (λ w. option_or (find t qs) (option_or (cond w (Some x) None) (find t xs)) ≡ option_or (find t qs) (cond w (Some x) (find t xs))) [ true ↦ refl | false ↦ refl ])
    ] refl

find-filter : {X : Type 0} (t ok : X → Bool) (xs : List X) → find t (filter ok xs) ≡ find (λ x. ok x && t x) xs
find-filter t ok [] = refl
find-filter t ok (x ∷ xs) =
    elim (ok x) as (λ v. find t (cond v (x ∷ filter ok xs) (filter ok xs)) ≡ cond (v && t x) (Some x) (find (λ y. ok y && t y) xs)) [
      | true ↦ ap (cond (t x) (Some x)) (find-filter t ok xs)
      | false ↦ find-filter t ok xs
    ]

module _ {X : Type 0} (g : X → Option Position) (t : Position → Bool) where
  find-filter_map : (xs : List X) → find t (filter_map g xs) ≡ option_and_then g (find (λ x. passes t (g x)) xs)
  find-filter_map [] = refl
  find-filter_map (x ∷ xs) =
      elim (g x) as (λ o. g x ≡ o → find t (cons_option o (filter_map g xs)) ≡ option_and_then g (cond (passes t o) (Some x) (find (λ y. passes t (g y)) xs))) [
        | None ↦ λ _. find-filter_map xs
        | Some q ↦ λ is. elim (t q) as (λ v. cond v (Some q) (find t (filter_map g xs)) ≡ option_and_then g (cond v (Some x) (find (λ y. passes t (g y)) xs))) [ true ↦ sym is | false ↦ find-filter_map xs ]
      ] refl

  -- the first that passes is the first that brings about what it brings about
  find-same : (q : Position) (s : X) (xs : List X) → find (λ x. passes t (g x)) xs ≡ Some s → g s ≡ Some q → t q ≡ true → find (λ x. reaches q (g x)) xs ≡ Some s
  find-same q s [] found is good = let wrong : true ≡ false = cc in absurd (true≢false wrong)
  find-same q s (x ∷ xs) found is good =
      elim (passes t (g x)) as (λ v. passes t (g x) ≡ v → cond v (Some x) (find (λ y. passes t (g y)) xs) ≡ Some s → cond (reaches q (g x)) (Some x) (find (λ y. reaches q (g y)) xs) ≡ Some s) [
        | true ↦ λ _ f.
            let same : x ≡ s = cc in
            let here : reaches q (g x) ≡ true = ap (λ y. reaches q (g y)) same ∙ (ap (reaches q) is ∙ same_position-same q q refl) in
            rw here (ap Some same)
        | false ↦ λ fails f.
            let other : reaches q (g x) ≡ false = apart (g x) fails in
            rw other (find-same q s xs f is good)
      ] refl found where
        apart : (o : Option Position) → passes t o ≡ false → reaches q o ≡ false
        apart None h = refl
        apart (Some r) h = false_from_ne_true _ (λ same. both_ways _ h (ap t ((same_position-Decides r q).0 same) ∙ good))

find-agree : {X : Type 0} (f g : X → Bool) (xs : List X) → ((x : X) → In x xs → f x ≡ g x) → find f xs ≡ find g xs
find-agree f g [] same = refl
find-agree f g (x ∷ xs) same = rw (same x (inl refl)) (ap (cond (g x) (Some x)) (find-agree f g xs (λ y i. same y (inr i))))

filter_map-In : {X Y : Type 0} (g : X → Option Y) (y : Y) (x : X) (xs : List X) → In x xs → g x ≡ Some y → In y (filter_map g xs)
filter_map-In g y x [] i is = absurd i
filter_map-In g y x (z ∷ xs) (inl e) is = let here : g z ≡ Some y = ap g (sym e) ∙ is in rw here (inl refl)
filter_map-In g y x (z ∷ xs) (inr i) is = elim (g z) as (λ o. In y (cons_option o (filter_map g xs))) [ None ↦ filter_map-In g y x xs i is | Some w ↦ inr (filter_map-In g y x xs i is) ]

module _ (barred : List Position) where
  -- among the results the next positions are those that are not barred
  allowed : (p q : Position) → In q (results p) → stands_in (next barred p) q ≡ not (stands_in barred q)
  allowed p q i =
      same_tests _ _
      (λ there. (In-filter (λ x. not (stands_in barred x)) q (results p) (stands-In (next barred p) q there)).1)
      (λ free. In-stands (next barred p) q (filter-In (λ x. not (stands_in barred x)) q (results p) i free))

  listed : (p q : Position) (steps : List Step) → In steps turn_lists → result_of p steps ≡ Some q → In q (results p)
  unfolding results
  listed p q steps i is = first-new q [] (filter_map (result_of p) turn_lists) (filter_map-In (result_of p) q steps turn_lists i is)

  find-next : (t : Position → Bool) (p : Position) → find t (next barred p) ≡ option_and_then (result_of p) (find (λ steps. passes (λ q. not (stands_in barred q) && t q) (result_of p steps)) turn_lists)
  unfolding results
  find-next t p =
      let test : Position → Bool = λ q. not (stands_in barred q) && t q in
      find-filter t (λ q. not (stands_in barred q)) (first_occurrences [] (filter_map (result_of p) turn_lists))
      ∙ (find-first_occurrences test [] (filter_map (result_of p) turn_lists)
      ∙ find-filter_map (result_of p) test turn_lists)

  by-result : (t : Position → Bool) (best : Option Position → Bool) (p : Position) (o : Option Position) → best None ≡ false → ((r : Position) → best (Some r) ≡ (stands_in (next barred p) r && t r)) → ((r : Position) → o ≡ Some r → stands_in (next barred p) r ≡ not (stands_in barred r)) → best o ≡ passes (λ r. not (stands_in barred r) && t r) o
  by-result t best p None none some same = none
  by-result t best p (Some r) none some same = some r ∙ ap (λ b. b && t r) (same r refl)

  -- the first turn to the first position of next that passes a test is the first turn to any position of next that passes it
  pub passing-turn : (t : Position → Bool) (best : Option Position → Bool) (p q : Position) → best None ≡ false → ((r : Position) → best (Some r) ≡ (stands_in (next barred p) r && t r)) → find t (next barred p) ≡ Some q → first_turn p q ≡ Some (unwrap_or (find (λ steps. best (result_of p steps)) turn_lists) [])
  unfolding first_turn
  passing-turn t best p q none some found =
      let test : Position → Bool = λ r. not (stands_in barred r) && t r in
      let first : List Step → Bool = λ steps. best (result_of p steps) in
      let other : List Step → Bool = λ steps. passes test (result_of p steps) in
      let here = find-is t q (next barred p) found in
      let good : test q ≡ true = and_from _ _ (In-filter (λ x. not (stands_in barred x)) q (results p) here.0).1 here.1 in
      let agree : find first turn_lists ≡ find other turn_lists =
      find-agree first other turn_lists (λ steps i. by-result t best p (result_of p steps) none some (λ r is. allowed p r (listed p r steps i is))) in
      let turned : option_and_then (result_of p) (find other turn_lists) ≡ Some q = sym (find-next t p) ∙ found in
      elim (find other turn_lists) as (λ o. find other turn_lists ≡ o → option_and_then (result_of p) o ≡ Some q → find (λ steps. reaches q (result_of p steps)) turn_lists ≡ Some (unwrap_or (find first turn_lists) [])) [
        | None ↦ λ _ none. let wrong : true ≡ false = cc in absurd (true≢false wrong)
        | Some s ↦ λ is turn. find-same (result_of p) test q s turn_lists is turn good ∙ ap Some (sym (ap (λ o. unwrap_or o []) (agree ∙ is)))
      ] refl turned

module _ (a : Color) (barred : List Position) where
  -- the turn of an entry is the first turn to the first place of next with its rank
  pub entry-turn : (m : ℕ) (p q : Position) → find (has_rank a barred m) (next barred p) ≡ Some q → first_turn p q ≡ Some (first_best a barred m p)
  unfolding first_best
  entry-turn m p q found = passing-turn barred (has_rank a barred m) (brings a barred m p) p q refl (λ r. refl) found

  -- with exact ranks the first place that is won one turn earlier is the first with that rank
  pub first-won : (m : ℕ) (p : Position) → same_color p.side a ≡ true → decided p ≡ None → IsRank a barred p (suc m) → find (wins a barred m) (next barred p) ≡ find (has_rank a barred m) (next barred p)
  first-won m p own undecided exact =
      find-agree (wins a barred m) (has_rank a barred m) (next barred p) (λ q i. same_tests _ _ (best-exact a barred m p q own undecided exact i) (λ h. (has_rank-is a barred m q h).won))

  reached-is : (q : Position) (o : Option Position) → reaches q o ≡ true → o ≡ Some q
  reached-is q None h = let wrong : true ≡ false = sym h in absurd (true≢false wrong)
  reached-is q (Some r) h = ap Some ((same_position-Decides r q).0 h)

  brought : (p q : Position) (steps : List Step) → first_turn p q ≡ Some steps → result_of p steps ≡ Some q
  unfolding first_turn
  brought p q steps found = reached-is q (result_of p steps) (find-is (λ s. reaches q (result_of p s)) steps turn_lists found).1

  -- what the entry of an open position brings about
  pub best-result : (n : ℕ) (p : Position) → IsOpen a barred n p → find (wins a barred (rank_within a barred n p - 1)) (next barred p) ≡ result_at (entry_of a barred n p)
  unfolding entry_of
  best-result n p is =
      let exact = rank-is a barred n p is.won in
      let best = own-rank a barred p (rank_within a barred n p) is.own is.undecided exact in
      let m : ℕ = best.before in
      let more : rank_within a barred n p ≡ suc m = best.more in
      let less : rank_within a barred n p - 1 ≡ m = omega arith in
      let ranked : IsRank a barred p (suc m) = subst (λ (r : ℕ). IsRank a barred p r) more exact in
      let found = find-some (has_rank a barred m) best.best (next barred p) best.inside best.exact in
      let q : Position = found.0 in
      let first : find (wins a barred m) (next barred p) ≡ Some q = first-won m p is.own is.undecided ranked ∙ found.1 in
      let there = brought p q (first_best a barred m p) (entry-turn m p q found.1) in
      let F : ℕ → Type 0 = λ k. find (wins a barred k) (next barred p) ≡ result_of p (first_best a barred k p) in
      subst F (sym less) (first ∙ sym there)
