-- Equality of positions, and what results are.
use Rattle.std.proofs.Common.{◌≡◌, ◌+◌, List, [], ◌∷◌, ◌++◌, None, Some, true, false, cond, not, ◌⊎◌, inl, inr, ⊎_elim, refl, sym, ◌∙◌, ap, subst, arith, true≢false}
use Rattle.std.specs.List.{filter_map}
use Rattle.std.proofs.lemmas.Bool.{both_ways}
use Rattle.std.proofs.lemmas.List.Sums.{sum_by-append}
use Rattle.arimaa_board.specs.Piece.{other_color}
pub use Rattle.arimaa_board.specs.ColorLaws.{same_color-Decides, other_color-same}
use Rattle.arimaa_board.specs.declared.position.Position.{Position}
use Rattle.arimaa_board.specs.declared.position.Step.{Step}
pub use Rattle.arimaa_board.specs.SamePositions.{same_position-Decides}
use Rattle.arimaa_board.specs.SamePositions.{same_position}
use Rattle.arimaa_model.specs.Turns.{is_turn, after_all}
use Rattle.arimaa_model.specs.Results.{stands_in, with_new, first_occurrences, results, result_of, position_of, turn_lists, next}
use Rattle.arimaa_model.specs.Game.{count_in}
use Rattle.arimaa_model.proofs.Lemmas.Members.{In, In-append, In-left, In-right, In-filter, any-In, In-any, In-filter_map}

pub same_position-same : (p q : Position) → p ≡ q → same_position p q ≡ true
same_position-same p q e = (same_position-Decides p q).1 e

pub stands-In : (qs : List Position) (p : Position) → stands_in qs p ≡ true → In p qs
stands-In qs p stands =
    let found = any-In (same_position p) qs stands in
    let same : p ≡ found.0 = (same_position-Decides p found.0).0 found.2 in
    subst (λ (x : Position). In x qs) (sym same) found.1

pub In-stands : (qs : List Position) (p : Position) → In p qs → stands_in qs p ≡ true
In-stands qs p i = In-any (same_position p) p qs i (same_position-same p p refl)

pub not-stands : (qs : List Position) (p : Position) → stands_in qs p ≡ false → In p qs → ⊥
not-stands qs p fails i = both_ways _ fails (In-stands qs p i)

-- members of first occurrences
pub In-with_new : (x p : Position) (qs : List Position) → In x (with_new qs p) → In x qs ⊎ (x ≡ p)
In-with_new x p qs i =
    elim (stands_in qs p) as (λ v. In x (cond v qs (qs ++ p ∷ [])) → In x qs ⊎ (x ≡ p)) [
      | true ↦ λ j. inl j
      | false ↦ λ j. ⊎_elim (λ l. inl l) (λ r. ⊎_elim (λ e. inr e) (λ none. absurd none) r) (In-append x qs (p ∷ []) j)
    ] i

pub with_new-old : (x p : Position) (qs : List Position) → In x qs → In x (with_new qs p)
with_new-old x p qs i = elim (stands_in qs p) as (λ v. In x (cond v qs (qs ++ p ∷ []))) [ true ↦ i | false ↦ In-left x qs (p ∷ []) i ]

pub with_new-new : (p : Position) (qs : List Position) → In p (with_new qs p)
with_new-new p qs =
    elim (stands_in qs p) as (λ v. stands_in qs p ≡ v → In p (cond v qs (qs ++ p ∷ []))) [
      | true ↦ λ there. stands-In qs p there
      | false ↦ λ _. In-right p qs (p ∷ []) (inl refl)
    ] refl

pub In-first : (x : Position) (qs ps : List Position) → In x (first_occurrences qs ps) → In x qs ⊎ In x ps
In-first x qs [] i = inl i
In-first x qs (p ∷ ps) i =
    ⊎_elim
    (λ l. ⊎_elim (λ old. inl old) (λ e. inr (inl e)) (In-with_new x p qs l))
    (λ r. inr (inr r))
    (In-first x (with_new qs p) ps i)

pub first-old : (x : Position) (qs ps : List Position) → In x qs → In x (first_occurrences qs ps)
first-old x qs [] i = i
first-old x qs (p ∷ ps) i = first-old x (with_new qs p) ps (with_new-old x p qs i)

pub first-new : (x : Position) (qs ps : List Position) → In x ps → In x (first_occurrences qs ps)
first-new x qs [] i = absurd i
first-new x qs (p ∷ ps) (inl e) = first-old x (with_new qs p) ps (subst (λ (y : Position). In y (with_new qs p)) (sym e) (with_new-new p qs))
first-new x qs (p ∷ ps) (inr i) = first-new x (with_new qs p) ps i

-- a turn changes the side
pub result-side : (p : Position) (steps : List Step) (q : Position) → result_of p steps ≡ Some q → q.side ≡ other_color p.side
result-side p steps q is =
    elim (is_turn p.board p.side steps) as (λ v. cond v (Some (position_of (after_all p.board steps) p)) None ≡ Some q → q.side ≡ other_color p.side) [
      | true ↦ λ e. let same : q ≡ position_of (after_all p.board steps) p = cc in ap (λ (x : Position). x.side) same
      | false ↦ λ e. let wrong : true ≡ false = cc in absurd (true≢false wrong)
    ] is

-- each result has a turn
pub results-turn : (p q : Position) → In q (results p) → (steps : List Step) × In steps turn_lists × (result_of p steps ≡ Some q)
unfolding results
results-turn p q i = ⊎_elim (λ none. absurd none) (λ j. In-filter_map (result_of p) q turn_lists j) (In-first q [] (filter_map (result_of p) turn_lists) i)

pub results-side : (p q : Position) → In q (results p) → q.side ≡ other_color p.side
results-side p q i = let t = results-turn p q i in result-side p t.0 q t.2

pub next-results : (barred : List Position) (p q : Position) → In q (next barred p) → In q (results p)
next-results barred p q i = (In-filter (λ x. not (stands_in barred x)) q (results p) i).0

-- counts of a history with one more
pub count-more : (h : List Position) (q x : Position) → count_in (h ++ q ∷ []) x ≡ count_in h x + cond (same_position x q) 1 0
count-more h q x = sum_by-append (λ y. cond (same_position x y) 1 0) h (q ∷ []) ∙ ap (λ n. count_in h x + n) (omega arith)
