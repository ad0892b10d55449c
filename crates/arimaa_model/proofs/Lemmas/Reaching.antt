-- What is reached by trying one step after another.
use Rattle.std.proofs.Common.{◌≡◌, ℕ, suc, ◌+◌, List, [], ◌∷◌, ◌++◌, map, Option, None, Some, false, refl, sym, ◌∙◌, ap, append_assoc, append-nil, ne_eqb, ◌<◌, drop, length, get_or}
use Rattle.std.proofs.lemmas.List.{at_drop_more}
use Rattle.std.specs.Prelude.{◌==◌}
use Rattle.std.specs.List.{flat_map, filter_map, cons_option, range_with_len}
use Rattle.std.specs.Option.{option_to_list}
use Rattle.std.proofs.lemmas.Bool.{and_parts, eqb-false, false_from_ne_true, both_ways}
use Rattle.arimaa_board.specs.declared.piece.Piece.{Piece}
use Rattle.arimaa_board.specs.declared.board.Board.{Board}
use Rattle.arimaa_board.specs.Piece.{all_pieces, code_of}
use Rattle.arimaa_board.specs.Square.{directions}
use Rattle.arimaa_board.specs.Board.{at, holds}
use Rattle.arimaa_board.specs.declared.position.Step.{Step}
use Rattle.arimaa_board.specs.declared.position.Position.{Position}
use Rattle.arimaa_model.specs.Moves.{fits}
use Rattle.arimaa_model.specs.Turns.{after_all, may_grow, is_turn}
use Rattle.arimaa_model.specs.Results.{step_of, squares, all_steps, step_lists, turn_lists, result_of, with_new, first_occurrences, results}
use Rattle.arimaa_model.specs.Plain.{steps_of, candidates, positions_reached}
use Rattle.arimaa_model.proofs.Lemmas.Lists.{filter_map-flat_map, filter_map-map, filter_map-none, filter_map-agree, cons_option-nil, flat_map-agree, flat_map-flat_map, flat_map-map, flat_map-filter, flat_map-none}
use Rattle.arimaa_model.proofs.Steps.{once, squares-is}
use Rattle.arimaa_model.proofs.Lemmas.Growing.{begins, last_fits}
use Rattle.std.proofs.lemmas.List.Elements.{filter_map-append}

module _ {Y : Type 0} (F : Step → List Y) where
  -- what one piece gives
  abbrev given : ℕ → Option Piece → List Y
  given s q = flat_map F (steps_of s q)

  of_pieces : (f : Piece → List Y) (p : Option Piece) → ((q : Piece) → holds q p ≡ false → f q ≡ []) → flat_map f all_pieces ≡ flat_map f (option_to_list p)
  of_pieces f None none = flat_map-none f all_pieces (λ q. none q refl)
  of_pieces f (Some p) none =
      flat_map-filter f (λ q. code_of q == code_of p) all_pieces (λ q e. none q (ne_eqb (code_of p) (code_of q) (λ same. eqb-false (code_of q) (code_of p) e (sym same))))
      ∙ ap (flat_map f) (once p.color p.kind)

  turned_round : (s : ℕ) (q : Option Piece) → flat_map (λ d. flat_map (λ r. F (step_of s d r)) (option_to_list q)) directions ≡ given s q
  turned_round s None = refl
  turned_round s (Some q) = flat_map-agree _ (λ d. F (step_of s d q)) directions (λ d. append-nil (F (step_of s d q)))

  -- only the steps of the pieces that stand there count
  pub all_steps-candidates : (b : Board) → ((s : Step) → holds s.piece (at b s.from) ≡ false → F s ≡ []) → flat_map F all_steps ≡ flat_map F (candidates b)
  unfolding all_steps candidates
  all_steps-candidates b none =
      flat_map-flat_map F (λ s. flat_map (λ d. map (step_of s d) all_pieces) directions) squares
      ∙ (flat_map-agree _ (λ s. given s (at b s)) squares
      (λ s. flat_map-flat_map F (λ d. map (step_of s d) all_pieces) directions
      ∙ (flat_map-agree _ (λ d. flat_map (λ r. F (step_of s d r)) (option_to_list (at b s))) directions
      (λ d. flat_map-map F (step_of s d) all_pieces ∙ of_pieces (λ r. F (step_of s d r)) (at b s) (λ q other. none (step_of s d q) other))
      ∙ turned_round s (at b s)))
      ∙ sym (flat_map-flat_map F (λ s. steps_of s (at b s)) squares))

no_turn : (p : Position) (xs rest : List Step) → may_grow p.board p.side xs ≡ false → result_of p (xs ++ rest) ≡ None
unfolding is_turn
no_turn p xs rest stuck =
    let fails : is_turn p.board p.side (xs ++ rest) ≡ false =
    false_from_ne_true _ (λ turn. both_ways (may_grow p.board p.side xs) stuck (begins p.board p.side xs rest (and_parts _ _ (and_parts _ _ turn).0).1)) in
    rw fails refl

-- from steps that cannot grow nothing is reached
pub reached-none : (p : Position) (xs : List Step) (n : ℕ) → may_grow p.board p.side xs ≡ false → positions_reached p xs n ≡ []
unfolding positions_reached
reached-none p xs n stuck = filter_map-none (λ rest. result_of p (xs ++ rest)) (step_lists n) (λ rest. no_turn p xs rest stuck)

pub reached-zero : (p : Position) (xs : List Step) → positions_reached p xs 0 ≡ option_to_list (result_of p xs)
unfolding positions_reached step_lists
reached-zero p xs = ap (λ ys. cons_option (result_of p ys) []) (append-nil xs) ∙ cons_option-nil (result_of p xs)

no_step : (p : Position) (xs : List Step) (n : ℕ) (s : Step) → holds s.piece (at (after_all p.board xs) s.from) ≡ false → positions_reached p (xs ++ s ∷ []) n ≡ []
unfolding fits
no_step p xs n s other =
    reached-none p (xs ++ s ∷ []) n
    (false_from_ne_true _ (λ grows. both_ways (holds s.piece (at (after_all p.board xs) s.from)) other (and_parts _ _ (last_fits p.board p.side xs s grows)).0))

-- one step more
pub reached-suc : (p : Position) (xs : List Step) (n : ℕ) → positions_reached p xs (suc n) ≡ flat_map (λ s. positions_reached p (xs ++ s ∷ []) n) (candidates (after_all p.board xs))
unfolding positions_reached step_lists
reached-suc p xs n =
    filter_map-flat_map (λ rest. result_of p (xs ++ rest)) (λ s. map (λ rest. s ∷ rest) (step_lists n)) all_steps
    ∙ (flat_map-agree _ (λ s. positions_reached p (xs ++ s ∷ []) n) all_steps
    (λ s. filter_map-map (λ rest. result_of p (xs ++ rest)) (λ rest. s ∷ rest) (step_lists n)
    ∙ filter_map-agree _ (λ rest. result_of p ((xs ++ s ∷ []) ++ rest)) (step_lists n) (λ rest. ap (result_of p) (sym (append_assoc xs (s ∷ []) rest))))
    ∙ all_steps-candidates (λ s. positions_reached p (xs ++ s ∷ []) n) (after_all p.board xs) (no_step p xs n))

pub first_occurrences-append : (qs xs ys : List Position) → first_occurrences qs (xs ++ ys) ≡ first_occurrences (first_occurrences qs xs) ys
first_occurrences-append qs [] ys = refl
first_occurrences-append qs (x ∷ xs) ys = first_occurrences-append (with_new qs x) xs ys

-- the results are what turns of one, two, three and four steps reach
pub results-is : (p : Position) → results p ≡ first_occurrences (first_occurrences (first_occurrences (first_occurrences [] (positions_reached p [] 1)) (positions_reached p [] 2)) (positions_reached p [] 3)) (positions_reached p [] 4)
unfolding results positions_reached turn_lists
results-is p =
    let g : List Step → Option Position = result_of p in
    let l1 = filter_map g (step_lists 1) in
    let l2 = filter_map g (step_lists 2) in
    let l3 = filter_map g (step_lists 3) in
    let l4 = filter_map g (step_lists 4) in
    let split = filter_map-append g (step_lists 1 ++ step_lists 2 ++ step_lists 3) (step_lists 4)
    ∙ ap (λ l. l ++ l4) (filter_map-append g (step_lists 1 ++ step_lists 2) (step_lists 3)
    ∙ ap (λ l. l ++ l3) (filter_map-append g (step_lists 1) (step_lists 2))) in
    ap (first_occurrences []) split
    ∙ (first_occurrences-append [] (l1 ++ l2 ++ l3) l4
    ∙ ap (λ l. first_occurrences l l4) (first_occurrences-append [] (l1 ++ l2) l3
    ∙ ap (λ l. first_occurrences l l3) (first_occurrences-append [] l1 l2)))

pub candidates-is : (b : Board) → candidates b ≡ flat_map (λ s. steps_of s (at b s)) (range_with_len 0 64)
unfolding candidates
candidates-is b = ap (flat_map (λ s. steps_of s (at b s))) squares-is

-- a step of a loop over steps, each of which adds what it reaches
pub step_more : (F : Step → List Position) (xs : List Step) (i : ℕ) (x : Step) (qs rs : List Position) → i < length xs → x ≡ get_or xs i x → rs ≡ first_occurrences qs (F x)
    → first_occurrences rs (flat_map F (drop (i + 1) xs)) ≡ first_occurrences qs (flat_map F (drop i xs))
step_more F xs i x qs rs inside is added =
    let rest = flat_map F (drop (i + 1) xs) in
    ap (λ r. first_occurrences r rest) added
    ∙ (sym (first_occurrences-append qs (F x) rest)
    ∙ ap (first_occurrences qs) (ap (λ y. F y ++ rest) is ∙ sym (at_drop_more (flat_map F) xs i x inside)))
