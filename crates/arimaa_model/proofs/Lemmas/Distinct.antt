-- Results are distinct, reached by turns, and all that turns reach.
use Rattle.std.proofs.Common.{◌≡◌, List, [], ◌∷◌, ◌++◌, length, Bool, true, false, cond, None, Some, refl, sym, ap, subst, inl, inr, ⊎_elim}
use Rattle.std.specs.Prelude.{not}
use Rattle.std.specs.List.{filter_map, list_any}
use Rattle.std.proofs.lemmas.Bool.{both_ways}
use Rattle.arimaa_board.specs.declared.piece.Color.{Color}
use Rattle.arimaa_board.specs.declared.board.Board.{Board}
use Rattle.arimaa_board.specs.declared.position.Position.{Position}
use Rattle.arimaa_board.specs.declared.position.Step.{Step}
use Rattle.arimaa_board.specs.Piece.{other_color}
use Rattle.arimaa_model.specs.Turns.{after_all, is_turn}
use Rattle.arimaa_model.specs.Results.{stands_in, with_new, first_occurrences, results, result_of, position_of, turn_lists, next}
use Rattle.arimaa_model.specs.Wins.{is_nil}
use Rattle.arimaa_model.specs.Plain.{positions_reached}
use Rattle.arimaa_model.specs.Members.{Stands, AreDistinct}
use Rattle.arimaa_model.specs.Relations.{IsTurn}
use Rattle.arimaa_model.proofs.Lemmas.Members.{In, In-append, any-In, filter-In}
use Rattle.arimaa_model.proofs.Lemmas.Positions.{stands-In, In-stands, not-stands, first-old, results-turn, result-side}
use Rattle.arimaa_model.proofs.Lemmas.Listed.{result-turn, turn-results}
use Rattle.arimaa_model.proofs.Lemmas.Reaching.{results-is}
use Rattle.arimaa_model.proofs.Lemmas.Ranking.{some-length}
use Rattle.arimaa_model.proofs.Lemmas.RelatedTurns.{turn-Decides}

distinct-push : (qs : List Position) (p : Position) → AreDistinct qs → stands_in qs p ≡ false → AreDistinct (qs ++ p ∷ [])
distinct-push [] p distinct new = (λ stands. absurd (both_ways _ new stands), tt)
distinct-push (q ∷ qs) p distinct new =
    let out : In p (q ∷ qs) → ⊥ = not-stands (q ∷ qs) p new in
    let rest : stands_in qs p ≡ false = none (stands_in qs p) refl in (
      λ stands. ⊎_elim
          (λ i. distinct.0 (In-stands qs q i))
          (λ i. ⊎_elim (λ (e : q ≡ p). out (inl (sym e))) (λ n. absurd n) i)
          (In-append q qs (p ∷ []) (stands-In (qs ++ p ∷ []) q stands)),
      distinct-push qs p distinct.1 rest,
    ) where
      none : (v : Bool) → stands_in qs p ≡ v → v ≡ false
      none true e = absurd (not-stands (q ∷ qs) p new (inr (stands-In qs p e)))
      none false e = refl

distinct-with_new : (qs : List Position) (p : Position) → AreDistinct qs → AreDistinct (with_new qs p)
distinct-with_new qs p distinct =
    elim (stands_in qs p) as (λ v. stands_in qs p ≡ v → AreDistinct (cond v qs (qs ++ p ∷ []))) [
      | true ↦ λ _. distinct
      | false ↦ λ new. distinct-push qs p distinct new
    ] refl

-- first occurrences are distinct
pub distinct-first : (qs ps : List Position) → AreDistinct qs → AreDistinct (first_occurrences qs ps)
distinct-first qs [] distinct = distinct
distinct-first qs (p ∷ ps) distinct = distinct-first (with_new qs p) ps (distinct-with_new qs p distinct)

pub results-distinct : (p : Position) → AreDistinct (results p)
unfolding results
results-distinct p = distinct-first [] (filter_map (result_of p) turn_lists) tt

made : (p : Position) (steps : List Step) (q : Position) → result_of p steps ≡ Some q → after_all p.board steps ≡ q.board
made p steps q is =
    elim (is_turn p.board p.side steps) as (λ v. cond v (Some (position_of (after_all p.board steps) p)) None ≡ Some q → after_all p.board steps ≡ q.board) [
      | true ↦ λ e. let same : position_of (after_all p.board steps) p ≡ q = cc in ap (λ (x : Position). x.board) same
      | false ↦ λ e. let wrong : true ≡ false = cc in absurd (both_ways true (wrong) refl)
    ] is

pub results-reached : (p q : Position) → Stands (results p) q → (q.side ≡ other_color p.side) × ((steps : List Step) × IsTurn p.board p.side steps q.board)
results-reached p q stands =
    let t = results-turn p q (stands-In (results p) q stands) in
    let turn = (turn-Decides p.board p.side t.0).0 (result-turn p t.0 q t.2) in
    (result-side p t.0 q t.2, (t.0, subst (λ c. IsTurn p.board p.side t.0 c) (made p t.0 q t.2) turn))

-- a turn that leads to a board, as the test says it
pub turn-is : (b : Board) (side : Color) (steps : List Step) (c : Board) → IsTurn b side steps c → is_turn b side steps ≡ true
turn-is b side steps c turn = (turn-Decides b side steps).1 (subst (λ x. IsTurn b side steps x) (sym turn.leads) turn)

pub turns-reach : (p : Position) (steps : List Step) (c : Board) → length p.board ≡ 64 → IsTurn p.board p.side steps c → Stands (results p) (position_of c p)
turns-reach p steps c size turn =
    let passes = turn-is p.board p.side steps c turn in
    let is : result_of p steps ≡ Some (position_of c p) = rw (passes, turn.leads) refl in
    In-stands (results p) (position_of c p) (turn-results p (position_of c p) steps size is)

-- a result of one step that is not barred is a next position
pub near-next : (barred : List Position) (p : Position) → list_any (λ q. not (stands_in barred q)) (first_occurrences [] (positions_reached p [] 1)) ≡ true → is_nil (next barred p) ≡ false
near-next barred p some =
    let l1 = first_occurrences [] (positions_reached p [] 1) in
    let l2 = first_occurrences l1 (positions_reached p [] 2) in
    let l3 = first_occurrences l2 (positions_reached p [] 3) in
    let found = any-In (λ q. not (stands_in barred q)) l1 some in
    let q = found.0 in
    let deep = first-old q l3 (positions_reached p [] 4) (first-old q l2 (positions_reached p [] 3) (first-old q l1 (positions_reached p [] 2) found.1)) in
    let there : In q (results p) = subst (λ (l : List Position). In q l) (sym (results-is p)) deep in
    some-length q (next barred p) (filter-In (λ x. not (stands_in barred x)) q (results p) there found.2)
