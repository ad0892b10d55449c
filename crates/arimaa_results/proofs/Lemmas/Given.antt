-- The first that a function gives along a list, and the first that passes a test.
use Rattle.std.proofs.Common.{◌≡◌, ℕ, suc, ◌+◌, ◌-◌, ◌<◌, ◌≤◌, length, drop, get_or, List, [], ◌∷◌, ◌++◌, map, Option, None, Some, Bool, true, false, cond, refl, sym, ◌∙◌, ap, arith}
use Rattle.std.specs.List.{find, flat_map, range_with_len}
use Rattle.std.specs.Option.{option_or, option_map, option_to_list}
use Rattle.std.proofs.lemmas.List.Folds.{find-append}
use Rattle.std.proofs.lemmas.List.{at_drop_more, at_drop_all}
use Rattle.arimaa_results.specs.Walk.{first_given}
use Rattle.arimaa_model.proofs.Lemmas.Lists.{or-none, or_assoc}

pub or_four : {Y : Type 0} (a b c d : Option Y) → option_or (option_or (option_or a b) c) d ≡ option_or a (option_or b (option_or c (option_or d None)))
or_four (Some x) b c d = refl
or_four None (Some x) c d = refl
or_four None None (Some x) d = refl
or_four None None None d = sym (or-none d)

-- the first member, where there is one
abbrev pub head_of : {Y : Type 0} → List Y → Option Y
head_of [] = None
head_of (y ∷ ys) = Some y

or-head : {Y : Type 0} (o p : Option Y) (ys : List Y) → p ≡ head_of ys → option_or o p ≡ head_of (option_to_list o ++ ys)
or-head None p ys same = same
or-head (Some y) p ys same = refl

module _ {X Y : Type 0} where
  pub first_given-append : (f : X → Option Y) (xs ys : List X) → first_given f (xs ++ ys) ≡ option_or (first_given f xs) (first_given f ys)
  first_given-append f [] ys = refl
  first_given-append f (x ∷ xs) ys = ap (option_or (f x)) (first_given-append f xs ys) ∙ sym (or_assoc (f x) (first_given f xs) (first_given f ys))

  pub first_given-agree : (f g : X → Option Y) (xs : List X) → ((x : X) → f x ≡ g x) → first_given f xs ≡ first_given g xs
  first_given-agree f g [] same = refl
  first_given-agree f g (x ∷ xs) same = λ i. option_or (same x i) (first_given-agree f g xs same i)

  -- all that is given, in a list
  abbrev pub given_list : (X → Option Y) → X → List Y
  given_list f x = option_to_list (f x)

  pub first_given-is : (f : X → Option Y) (xs : List X) → first_given f xs ≡ head_of (flat_map (given_list f) xs)
  first_given-is f [] = refl
  first_given-is f (x ∷ xs) = or-head (f x) (first_given f xs) (flat_map (given_list f) xs) (first_given-is f xs)

  pub find-map : (t : Y → Bool) (f : X → Y) (xs : List X) → find t (map f xs) ≡ option_map f (find (λ x. t (f x)) xs)
  find-map t f [] = refl
  find-map t f (x ∷ xs) = elim (t (f x)) as (λ v. cond v (Some (f x)) (find t (map f xs)) ≡ option_map f (cond v (Some x) (find (λ y. t (f y)) xs))) [ true ↦ refl | false ↦ find-map t f xs ]

  pub find-flat_map : (t : Y → Bool) (f : X → List Y) (xs : List X) → find t (flat_map f xs) ≡ first_given (λ x. find t (f x)) xs
  find-flat_map t f [] = refl
  find-flat_map t f (x ∷ xs) = find-append t (f x) (flat_map f xs) ∙ ap (option_or (find t (f x))) (find-flat_map t f xs)

module _ {X Y Z : Type 0} where
  pub first_given-flat_map : (f : Y → Option Z) (g : X → List Y) (xs : List X) → first_given f (flat_map g xs) ≡ first_given (λ x. first_given f (g x)) xs
  first_given-flat_map f g [] = refl
  first_given-flat_map f g (x ∷ xs) = first_given-append f (g x) (flat_map g xs) ∙ ap (option_or (first_given f (g x))) (first_given-flat_map f g xs)

pub find-none : {X : Type 0} (t : X → Bool) (xs : List X) → ((x : X) → t x ≡ false) → find t xs ≡ None
find-none t [] none = refl
find-none t (x ∷ xs) none = rw (none x) (find-none t xs none)

-- a loop over a list: what the rest gives first is what the whole gives first
module _ {X Y : Type 0} (f : X → Option Y) (xs : List X) (i : ℕ) (whole : Option Y) (left : first_given f (drop i xs) ≡ whole) where
  opened : (x : X) → i < length xs → x ≡ get_or xs i x → option_or (f x) (first_given f (drop (i + 1) xs)) ≡ whole
  opened x inside is = ap (λ y. option_or (f y) (first_given f (drop (i + 1) xs))) is ∙ (sym (at_drop_more (first_given f) xs i x inside) ∙ left)

  pub item_more : (x : X) → i < length xs → x ≡ get_or xs i x → None ≡ f x → first_given f (drop (i + 1) xs) ≡ whole
  item_more x inside is none = ap (λ o. option_or o (first_given f (drop (i + 1) xs))) none ∙ opened x inside is

  pub item_found : (x : X) (y : Y) → i < length xs → x ≡ get_or xs i x → Some y ≡ f x → Some y ≡ whole
  item_found x y inside is found = ap (λ o. option_or o (first_given f (drop (i + 1) xs))) found ∙ opened x inside is

  pub items_end : length xs ≤ i → None ≡ whole
  items_end past = sym (at_drop_all (first_given f) xs i past) ∙ left

-- the first that a function gives of the numbers from n to below the end
unfoldable pub first_among : {Y : Type 0} → (ℕ → Option Y) → ℕ → ℕ → Option Y
first_among f n end = first_given f (range_with_len n (end - n))

-- a loop over numbers
module _ {Y : Type 0} (f : ℕ → Option Y) (n end : ℕ) (whole : Option Y) (left : first_among f n end ≡ whole) where
  counted : n < end → option_or (f n) (first_among f (n + 1) end) ≡ whole
  unfolding first_among
  counted below =
      let more : end - n ≡ suc (end - (n + 1)) = omega arith in
      sym (ap (λ k. first_given f (range_with_len n k)) more) ∙ left

  pub number_more : n < end → None ≡ f n → first_among f (n + 1) end ≡ whole
  number_more below none = ap (λ o. option_or o (first_among f (n + 1) end)) none ∙ counted below

  pub number_found : (y : Y) → n < end → Some y ≡ f n → Some y ≡ whole
  number_found y below found = ap (λ o. option_or o (first_among f (n + 1) end)) found ∙ counted below

  pub numbers_end : end ≤ n → None ≡ whole
  unfolding first_among
  numbers_end past =
      let none : end - n ≡ 0 = omega arith in
      sym (ap (λ k. first_given f (range_with_len n k)) none) ∙ left
