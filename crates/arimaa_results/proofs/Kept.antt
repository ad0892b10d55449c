-- Reading the kept states one after another, as the steps that make them come again.
use Rattle.std.proofs.Common.{◌≡◌, ℕ, zero, suc, ◌+◌, ◌<◌, List, [], ◌∷◌, ◌++◌, length, drop, get_or, true, false, cond, Some, refl, sym, ◌∙◌, ap, subst, arith, true≢false}
use Rattle.std.specs.Prelude.{◌-◌, ◌≤◌}
use Rattle.std.specs.List.{slice_get}
use Rattle.std.proofs.lemmas.List.{at_drop_more, at_drop_all, drop_at, get_or_append_left, length-append}
use Rattle.std.proofs.lemmas.Option.{get_or_from_slice_get, slice_get-get_or}
use Rattle.arimaa_board.specs.declared.position.Position.{Position}
use Rattle.arimaa_board.specs.declared.position.Step.{Step}
use Rattle.arimaa_step.specs.declared.state.TurnState.{TurnState}
use Rattle.arimaa_step.specs.StateWords.{state_in_planes}
use Rattle.arimaa_region.specs.Segments.{live_of, below_top, top}
use Rattle.arimaa_results.specs.Layers.{layer, layers_to}
use Rattle.arimaa_results.proofs.Layers.{IsRead, reading, layers_to-zero, layers_to-suc, layers-count, live-more, live-parts}
use Rattle.arimaa_results.specs.LastSteps.{is_next, left_after, brings_first, left_of_kept, brings_last}
use Rattle.arimaa_results.specs.NextStates.{next_pairs}

-- what stands at a place is the next value from there on
pub kept_there : (live : List (List ℕ)) (i : ℕ) (w : List ℕ) → i < length live → slice_get live i ≡ Some w → drop i live ≡ w ∷ drop (i + 1) live
kept_there live i w inside there =
    at_drop_more (λ (l : List (List ℕ)). l) live i w inside
    ∙ ap (λ v. v ∷ drop (i + 1) live) (get_or_from_slice_get live i w w there)

-- what stands at a place of the front of a list
pub front_there : (kept rest : List (List ℕ)) (i : ℕ) (w : List ℕ) → i < length kept → slice_get (kept ++ rest) i ≡ Some w → slice_get kept i ≡ Some w
front_there kept rest i w inside there =
    slice_get-get_or kept i w inside
    ∙ ap Some (sym (get_or_append_left kept rest w i inside) ∙ get_or_from_slice_get (kept ++ rest) i w w there)

-- the live values, where the ones below the top layer are those of before
pub below_live : (old segments : List (List (List ℕ))) → 0 < length old → length segments ≡ length old → below_top segments ≡ below_top old → live_of segments ≡ live_of (below_top old) ++ top segments
below_live old segments some count below =
    let filled : 0 < length segments = omega (arith, count, some) in
    live-parts segments filled ∙ ap (λ b. live_of b ++ top segments) below

-- past the front there is no next one
pub front_end : (kept : List (List ℕ)) (i : ℕ) (st : TurnState) → length kept ≤ i → is_next (drop i kept) st ≡ false
front_end kept i st past = at_drop_all (λ l. is_next l st) kept i past

drop_one : (live : List (List ℕ)) (i : ℕ) → drop 1 (drop i live) ≡ drop (suc i) live
drop_one [] zero = refl
drop_one [] (suc i) = refl
drop_one (w ∷ live) zero = refl
drop_one (w ∷ live) (suc i) = drop_one live i

past : (kept : List (List ℕ)) (st : TurnState) → is_next kept st ≡ true → left_after kept st ≡ drop 1 kept
past [] st next = absurd (true≢false (sym next))
past (w ∷ kept) st next = ap (λ v. cond v kept (w ∷ kept)) next

-- past the next one
pub left_next : (live : List (List ℕ)) (i : ℕ) (st : TurnState) → is_next (drop i live) st ≡ true → left_after (drop i live) st ≡ drop (i + 1) live
left_next live i st next =
    let more : suc i ≡ i + 1 = omega arith in
    past (drop i live) st next ∙ (drop_one live i ∙ ap (λ n. drop n live) more)

pub left_other : (kept : List (List ℕ)) (st : TurnState) → is_next kept st ≡ false → left_after kept st ≡ kept
left_other [] st other = refl
left_other (v ∷ kept) st other = ap (λ b. cond b kept (v ∷ kept)) other

module _ {R : Type 0} (placed : TurnState → Step → List R) (st : TurnState) (live : List (List ℕ)) (i : ℕ) (s : Step) (made : TurnState) (pairs left : List (Step × TurnState)) (split : pairs ≡ (s, made) ∷ left) where
  -- the first step makes the next kept state
  pub next_brings : is_next (drop i live) made ≡ true → brings_first placed st (drop i live) pairs ≡ placed st s ++ brings_first placed st (drop (i + 1) live) left
  unfolding brings_first
  next_brings next =
      ap (brings_first placed st (drop i live)) split
      ∙ (λ j. cond (next j) (placed st s) [] ++ brings_first placed st (left_next live i made next j) left)

  pub next_left : is_next (drop i live) made ≡ true → left_of_kept (drop (i + 1) live) left ≡ left_of_kept (drop i live) pairs
  unfolding left_of_kept
  next_left next = sym (ap (left_of_kept (drop i live)) split ∙ ap (λ l. left_of_kept l left) (left_next live i made next))

  -- it makes one that was kept before
  pub other_brings : is_next (drop i live) made ≡ false → brings_first placed st (drop i live) pairs ≡ brings_first placed st (drop i live) left
  unfolding brings_first
  other_brings other =
      ap (brings_first placed st (drop i live)) split
      ∙ (λ j. cond (other j) (placed st s) [] ++ brings_first placed st (left_other (drop i live) made other j) left)

  pub other_left : is_next (drop i live) made ≡ false → left_of_kept (drop i live) left ≡ left_of_kept (drop i live) pairs
  unfolding left_of_kept
  other_left other = sym (ap (left_of_kept (drop i live)) split ∙ ap (λ l. left_of_kept l left) (left_other (drop i live) made other))

pub none_brings : {R : Type 0} → (placed : TurnState → Step → List R) (st : TurnState) (kept : List (List ℕ)) (pairs : List (Step × TurnState)) → pairs ≡ [] → brings_first placed st kept pairs ≡ []
unfolding brings_first
none_brings placed st kept pairs none = ap (brings_first placed st kept) none

pub none_left : (kept : List (List ℕ)) (pairs : List (Step × TurnState)) → pairs ≡ [] → left_of_kept kept pairs ≡ kept
unfolding left_of_kept
none_left kept pairs none = ap (left_of_kept kept) none

-- the kept states of the third layer, from its first place on
pub kept_start : (p : Position) (third : ℕ) (segments : List (List (List ℕ))) → segments ≡ layers_to p 3 → third ≡ length (live_of (layers_to p 2)) → drop third (live_of segments) ≡ layer p 3
kept_start p third segments stands begins =
    ap (λ s. drop third (live_of s)) (stands ∙ layers_to-suc p 2)
    ∙ drop_at (live_of (layers_to p 2)) (layer p 3) third (sym begins)

-- the kept states of the first layer, from its first place on
pub start_kept : (p : Position) → drop 0 (live_of (layers_to p 1)) ≡ layer p 1
start_kept p = ap (λ s. drop 0 (live_of s)) (layers_to-suc p 0 ∙ ap (λ l. layer p 1 ∷ l) (layers_to-zero p)) ∙ drop_at [] (layer p 1) 0 refl

-- the kept states of the second layer, from its first place on
pub kept_first : (p : Position) (second : ℕ) → second ≡ length (live_of (layers_to p 1)) → drop second (live_of (layers_to p 2)) ≡ layer p 2
kept_first p second begins =
    ap (λ s. drop second (live_of s)) (layers_to-suc p 1)
    ∙ drop_at (live_of (layers_to p 1)) (layer p 2) second (sym begins)

module _ (p : Position) (segments : List (List (List ℕ))) (some : 0 < length segments) (below : below_top segments ≡ layers_to p 2) where
  -- the values of the first layer come first, under a layer that is filled
  first_parts : live_of segments ≡ live_of (layers_to p 2) ++ top segments
  first_parts = live-parts segments some ∙ ap (λ b. live_of b ++ top segments) below

  pub first_live : length (live_of (layers_to p 1)) ≤ length (live_of segments)
  first_live =
      let total = ap (length {A = List ℕ}) first_parts in
      omega (arith, length-append (live_of (layers_to p 2)) (top segments), live-more p 1)

  pub reading_first : length p.board ≡ 64 → (place second : ℕ) → second ≡ length (live_of (layers_to p 1)) → place < second → (w : List ℕ) → slice_get (live_of segments) place ≡ Some w → IsRead p 0 place w
  reading_first long place second ends inside w there =
      let within : place < length (live_of (layers_to p 2)) = omega (arith, live-more p 1) in
      let here : slice_get (live_of (layers_to p 2)) place ≡ Some w = front_there (live_of (layers_to p 2)) (top segments) place w within (ap (λ l. slice_get l place) (sym first_parts) ∙ there) in
      let none : 0 ≡ length (live_of (layers_to p 0)) = sym (ap (λ s. length (live_of s)) (layers_to-zero p)) in
      let count : 0 < length (layers_to p 2) = omega (arith, layers-count p 2) in
      let same : place - 0 ≡ place = omega arith in
      subst (λ i. IsRead p 0 i w) same
      (reading p long 0 (omega arith) place 0 second (layers_to p 1) (layers_to p 2) none refl ends (omega arith) inside count (ap below_top (layers_to-suc p 1)) w here)

module _ {R : Type 0} (placed : TurnState → Step → List R) (p : Position) where
  pub last_start : (second : ℕ) (kept all : List (List ℕ)) (ws : List (List ℕ)) → kept ≡ all → brings_last placed p kept (drop (second - second) ws) ≡ brings_last placed p all ws
  last_start second kept all ws is =
      let none : second - second ≡ 0 = omega arith in
      λ i. brings_last placed p (is i) (drop (none i) ws)

  -- the last steps after one state, and then after the others
  pub last_split : (kept after ws : List (List ℕ)) (i : ℕ) (w : List ℕ) (st : TurnState) → i < length ws → st ≡ state_in_planes p (get_or ws i w) → after ≡ left_of_kept kept (next_pairs st)
      → brings_last placed p kept (drop i ws) ≡ brings_first placed st kept (next_pairs st) ++ brings_last placed p after (drop (i + 1) ws)
  unfolding brings_last
  last_split kept after ws i w st inside is left =
      at_drop_more (brings_last placed p kept) ws i w inside
      ∙ sym (ap (λ l. brings_first placed st kept (next_pairs st) ++ brings_last placed p l (drop (i + 1) ws)) left
      ∙ ap (λ s. brings_first placed s kept (next_pairs s) ++ brings_last placed p (left_of_kept kept (next_pairs s)) (drop (i + 1) ws)) is)

  pub last_end : (kept ws : List (List ℕ)) (i : ℕ) → length ws ≤ i → brings_last placed p kept (drop i ws) ≡ []
  unfolding brings_last
  last_end kept ws i past = at_drop_all (brings_last placed p kept) ws i past
