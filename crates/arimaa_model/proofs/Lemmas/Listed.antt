-- Each turn's result stands among the results.
use Rattle.std.proofs.Common.{◌≡◌, ℕ, zero, suc, ◌+◌, ◌<◌, ◌≤◌, List, [], ◌∷◌, ◌++◌, map, length, Option, None, Some, true, false, cond, not, ◌⊎◌, inl, inr, ⊎_elim, refl, sym, ◌∙◌, ap, subst, arith, true≢false, append_assoc, append-nil}
use Rattle.std.specs.List.{range_with_len}
use Rattle.std.specs.Option.{option_to_list}
use Rattle.std.proofs.lemmas.List.{get_or_past}
use Rattle.std.proofs.lemmas.Bool.{and_parts, eqb-true, leb-true, cases_lt, not_from_false, not_from_true, both_ways, false_from_ne_true}
use Rattle.arimaa_board.specs.declared.piece.Piece.{Piece}
use Rattle.arimaa_board.specs.declared.square.Dir.{Dir}
use Rattle.arimaa_board.specs.declared.square.Dir.TheVariants.{North, East, South, West}
use Rattle.arimaa_board.specs.declared.board.Board.{Board}
use Rattle.arimaa_board.specs.Square.{directions}
use Rattle.arimaa_board.specs.Board.{at, holds, settle}
use Rattle.arimaa_board.specs.BoardLaws.{length-board_of}
use Rattle.arimaa_board.specs.CodeLaws.{same_code}
use Rattle.arimaa_board.specs.declared.position.Position.{Position}
use Rattle.arimaa_board.specs.declared.position.Step.{Step}
use Rattle.arimaa_model.specs.Moves.{fits, after, after_to, target}
use Rattle.arimaa_model.specs.Turns.{after_all, has_cutting, is_turn}
use Rattle.arimaa_model.specs.Results.{squares, step_of, stands_in, first_occurrences, results, result_of, position_of, next}
use Rattle.arimaa_model.specs.Plain.{steps_of, candidates, positions_reached}
use Rattle.arimaa_model.proofs.Lemmas.Growing.{begins, last_fits}
use Rattle.arimaa_model.proofs.Lemmas.Reaching.{reached-zero, reached-suc, results-is}
use Rattle.arimaa_model.proofs.Lemmas.Members.{In, In-filter, flat_map-In, filter-In}
use Rattle.arimaa_model.proofs.Lemmas.Positions.{first-old, first-new, In-stands, stands-In}

length-after_to : (b : Board) (from : ℕ) (to : Option ℕ) → length b ≡ 64 → length (after_to b from to) ≡ 64
unfolding settle
length-after_to b from None size = size
length-after_to b from (Some to) size = length-board_of _

pub length-after : (b : Board) (s : Step) → length b ≡ 64 → length (after b s) ≡ 64
unfolding after
length-after b s size = length-after_to b s.from (target s) size

pub length-after_all : (b : Board) (steps : List Step) → length b ≡ 64 → length (after_all b steps) ≡ 64
unfolding after
length-after_all b [] size = size
length-after_all b (s ∷ rest) size = length-after_all (after b s) rest (length-after_to b s.from (target s) size)

pub In-range : (m n k : ℕ) → m ≤ k → k < m + n → In k (range_with_len m n)
In-range m zero k low high = absurd (omega arith)
In-range m (suc n) k low high =
    ⊎_elim
    (λ (e : m < k). inr (In-range (m + 1) n k (omega arith) (omega arith)))
    (λ (e : k ≤ m). let same : k ≡ m = omega arith in inl same)
    (cases_lt m k)

pub range-In : (m n k : ℕ) → In k (range_with_len m n) → (m ≤ k) × (k < m + n)
range-In m zero k i = absurd i
range-In m (suc n) k i =
    ⊎_elim
    (λ (e : k ≡ m). (omega arith, omega arith))
    (λ j. let deep = range-In (m + 1) n k j in let low = deep.0 in let high = deep.1 in (omega arith, omega arith))
    i

In-directions : (d : Dir) → In d directions
In-directions North = inl refl
In-directions East = inr (inl refl)
In-directions South = inr (inr (inl refl))
In-directions West = inr (inr (inr (inl refl)))

pub map-In : {X Y : Type 0} (f : X → Y) (x : X) (xs : List X) → In x xs → In (f x) (map f xs)
map-In f x [] i = absurd i
map-In f x (y ∷ ys) (inl e) = inl (ap f e)
map-In f x (y ∷ ys) (inr i) = inr (map-In f x ys i)

In-steps_of : (s : Step) (o : Option Piece) → holds s.piece o ≡ true → In s (steps_of s.from o)
In-steps_of s None h = absurd (true≢false (sym h))
In-steps_of s (Some q) h =
    let same : q ≡ s.piece = same_code s.piece q (eqb-true _ _ h) in
    subst (λ (r : Piece). In s (map (λ d. step_of s.from d r) directions)) (sym same) (map-In (λ d. step_of s.from d s.piece) s.dir directions (In-directions s.dir))

on_board : (b : Board) (s : ℕ) (q : Piece) → length b ≡ 64 → holds q (at b s) ≡ true → s < 64
on_board b s q size h =
    ⊎_elim
    (λ (e : s < 64). e)
    (λ (e : 64 ≤ s). let none : at b s ≡ None = get_or_past b s None (omega arith) in absurd (true≢false (sym (sym (ap (holds q) none) ∙ h))))
    (cases_lt s 64)

In-candidates : (b : Board) (s : Step) → length b ≡ 64 → fits b s ≡ true → In s (candidates b)
unfolding candidates fits squares
In-candidates b s size fit =
    let here : holds s.piece (at b s.from) ≡ true = (and_parts _ _ fit).0 in
    flat_map-In (λ k. steps_of k (at b k)) s s.from squares (In-range 0 64 s.from (omega arith) (on_board b s.from s.piece size here)) (In-steps_of s (at b s.from) here)

-- steps whose result is a position are a turn
pub result-turn : (p : Position) (steps : List Step) (q : Position) → result_of p steps ≡ Some q → is_turn p.board p.side steps ≡ true
result-turn p steps q is =
    elim (is_turn p.board p.side steps) as (λ v. cond v (Some (position_of (after_all p.board steps) p)) None ≡ Some q → v ≡ true) [
      | true ↦ λ _. refl
      | false ↦ λ e. let wrong : true ≡ false = cc in absurd (true≢false wrong)
    ] is

cutting-of : (p : Position) (steps : List Step) → is_turn p.board p.side steps ≡ true → (1 ≤ length steps) × (length steps ≤ 4) × (has_cutting p.board p.side steps ≡ true)
unfolding is_turn
cutting-of p steps h =
    let a = and_parts _ _ h in
    let b = and_parts _ _ a.0 in
    let c = and_parts _ _ b.0 in
    (leb-true 1 _ c.0, leb-true _ 4 c.1, b.1)

In-reached : (p q : Position) (begun rest : List Step) → length p.board ≡ 64 → result_of p (begun ++ rest) ≡ Some q → In q (positions_reached p begun (length rest))
In-reached p q begun [] size is =
    let here : result_of p begun ≡ Some q = ap (result_of p) (sym (append-nil begun)) ∙ is in
    let all : In q (option_to_list (result_of p begun)) = rw here (inl refl) in
    subst (λ (l : List Position). In q l) (sym (reached-zero p begun)) all
In-reached p q begun (s ∷ rest) size is =
    let same : (begun ++ s ∷ []) ++ rest ≡ begun ++ s ∷ rest = append_assoc begun (s ∷ []) rest in
    let now : result_of p ((begun ++ s ∷ []) ++ rest) ≡ Some q = ap (result_of p) same ∙ is in
    let cut = (cutting-of p _ (result-turn p _ q now)).2 in
    let fit = last_fits p.board p.side begun s (begins p.board p.side (begun ++ s ∷ []) rest cut) in
    let inside = In-candidates (after_all p.board begun) s (length-after_all p.board begun size) fit in
    let deep = In-reached p q (begun ++ s ∷ []) rest size now in
    subst (λ (l : List Position). In q l) (sym (reached-suc p begun (length rest)))
    (flat_map-In (λ t. positions_reached p (begun ++ t ∷ []) (length rest)) q s (candidates (after_all p.board begun)) inside deep)

few : (n : ℕ) → 1 ≤ n → n ≤ 4 → (n ≡ 1) ⊎ ((n ≡ 2) ⊎ ((n ≡ 3) ⊎ (n ≡ 4)))
few zero low high = absurd (omega arith)
few (suc zero) low high = inl refl
few (suc (suc zero)) low high = inr (inl refl)
few (suc (suc (suc zero))) low high = inr (inr (inl refl))
few (suc (suc (suc (suc n)))) low high = let none : n ≡ 0 = omega arith in inr (inr (inr (ap (λ (k : ℕ). suc (suc (suc (suc k)))) none)))

-- the result of a turn is a result
pub turn-results : (p q : Position) (steps : List Step) → length p.board ≡ 64 → result_of p steps ≡ Some q → In q (results p)
turn-results p q steps size is =
    let parts = cutting-of p steps (result-turn p steps q is) in
    let there = In-reached p q [] steps size is in
    let r1 = positions_reached p [] 1 in
    let r2 = positions_reached p [] 2 in
    let r3 = positions_reached p [] 3 in
    let r4 = positions_reached p [] 4 in
    let l1 = first_occurrences [] r1 in
    let l2 = first_occurrences l1 r2 in
    let l3 = first_occurrences l2 r3 in
    let at_length : (n : ℕ) → length steps ≡ n → In q (positions_reached p [] n) = λ n e. subst (λ (k : ℕ). In q (positions_reached p [] k)) e there in
    let all : In q (first_occurrences l3 r4) =
    ⊎_elim (λ e. first-old q l3 r4 (first-old q l2 r3 (first-old q l1 r2 (first-new q [] r1 (at_length 1 e)))))
    (λ more. ⊎_elim (λ e. first-old q l3 r4 (first-old q l2 r3 (first-new q l1 r2 (at_length 2 e))))
    (λ more2. ⊎_elim (λ e. first-old q l3 r4 (first-new q l2 r3 (at_length 3 e))) (λ e. first-new q l3 r4 (at_length 4 e)) more2)
    more)
    (few (length steps) parts.0 parts.1) in
    subst (λ (l : List Position). In q l) (sym (results-is p)) all

-- and stands in next where it is not barred
pub turn-next : (barred : List Position) (p q : Position) (steps : List Step) → length p.board ≡ 64 → result_of p steps ≡ Some q → stands_in barred q ≡ false → stands_in (next barred p) q ≡ true
turn-next barred p q steps size is free =
    In-stands (next barred p) q (filter-In (λ x. not (stands_in barred x)) q (results p) (turn-results p q steps size is) (not_from_false _ free))

-- among the results of turns the next positions are those that are not barred
pub next-allowed : (barred : List Position) (p q : Position) (steps : List Step) → length p.board ≡ 64 → result_of p steps ≡ Some q → not (stands_in barred q) ≡ stands_in (next barred p) q
next-allowed barred p q steps size is =
    elim (stands_in barred q) as (λ v. stands_in barred q ≡ v → not v ≡ stands_in (next barred p) q) [
      | true ↦ λ bars. sym (false_from_ne_true _ (λ there. both_ways _ (not_from_true _ bars) (In-filter (λ x. not (stands_in barred x)) q (results p) (stands-In (next barred p) q there)).1))
      | false ↦ λ free. sym (turn-next barred p q steps size is free)
    ] refl
