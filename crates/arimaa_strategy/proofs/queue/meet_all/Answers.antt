use Rattle.std.proofs.Common.{◌≡◌, ℕ, ◌+◌, List, [], ◌∷◌, ◌++◌, drop, Bool, true, false, cond, refl, sym, ◌∙◌, ap}
use Rattle.std.specs.Prelude.{is_none}
use Rattle.std.specs.List.{filter, slice_get}
use Rattle.std.proofs.lemmas.List.{drop_more}
use Rattle.std.proofs.lemmas.Option.{get_or_from_slice_get, slice_get_within}
use Rattle.std.proofs.Common.{Some}
use Rattle.arimaa_board.specs.declared.position.Position.{Position}
use Rattle.arimaa_model.specs.DecidedPositions.{decided}
use Rattle.arimaa_model.specs.Results.{first_occurrences}
use Rattle.arimaa_model.proofs.Lemmas.Reaching.{first_occurrences-append}
use Rattle.arimaa_region.specs.Segments.{live_of}
use Rattle.arimaa_strategy.proofs.queue.meet_all.Goals as goal

abbrev undecided : Position → Bool
undecided x = is_none (decided x)

filter-cons : (q : Position) (rest : List Position) → filter undecided (q ∷ rest) ≡ filter undecided (q ∷ []) ++ filter undecided rest
filter-cons q rest = elim (undecided q) as (λ v. cond v (q ∷ filter undecided rest) (filter undecided rest) ≡ cond v (q ∷ []) [] ++ filter undecided rest) [ true ↦ refl | false ↦ refl ]

-- the first of those left is added
one_more : (xs queue now : List Position) (place : ℕ) (q : Position) → slice_get xs place ≡ Some q → now ≡ first_occurrences queue (filter undecided (q ∷ []))
    → first_occurrences now (filter undecided (drop (place + 1) xs)) ≡ first_occurrences queue (filter undecided (drop place xs))
one_more xs queue now place q there is =
    let here : drop place xs ≡ q ∷ drop (place + 1) xs = drop_more xs place q (slice_get_within xs place q there) ∙ ap (λ y. y ∷ drop (place + 1) xs) (get_or_from_slice_get xs place q q there) in
    ap (λ l. first_occurrences l (filter undecided (drop (place + 1) xs))) is
    ∙ (sym (first_occurrences-append queue (filter undecided (q ∷ [])) (filter undecided (drop (place + 1) xs)))
    ∙ ap (first_occurrences queue) (sym (filter-cons q (drop (place + 1) xs)) ∙ sym (ap (filter undecided) here)))

pub loop-place-preserved : goal.loop-place-preserved
loop-place-preserved c = one_more (live_of c.args.list.now.segments) c.loop-place.queue c.meet.new.queue c.loop-place.place c.get.result c.get.ensures c.in_ok-meet.ensures ∙ c.loop-place.invariant
