-- The ranks that the checker works out are those of the strategy.
use Rattle.std.proofs.Common.{◌≡◌, ℕ, suc, ◌<◌, max, List, [], ◌∷◌, length, map, Bool, true, false, cond, ◌&&◌, refl, sym, ◌∙◌, subst, Option, None, Some, is_some}
use Rattle.std.specs.Prelude.{nat_lt}
use Rattle.std.specs.List.{list_all}
use Rattle.std.specs.Option.{option_map}
use Rattle.std.proofs.lemmas.Bool.{ltb-true}
use Rattle.arimaa_board.specs.declared.piece.Color.{Color}
use Rattle.arimaa_board.specs.Board.{same_color}
use Rattle.arimaa_board.specs.declared.position.Position.{Position}
use Rattle.arimaa_board.specs.declared.ending.Ending.{Ending}
use Rattle.arimaa_model.specs.DecidedPositions.{decided}
use Rattle.arimaa_model.specs.Results.{next}
use Rattle.arimaa_model.specs.Ranks.{above}
use Rattle.arimaa_model.specs.Strategies.{Planned, find_entry}
use Rattle.arimaa_forced.specs.Acceptance.{is_win_of, rank_in, s_rank, q_rank, covered_for, is_covered, answered_for, is_answered}
use Rattle.arimaa_strategy.specs.declared.look.Look.{Look}
use Rattle.arimaa_strategy.specs.declared.look.Look.TheVariants as looks
use Rattle.arimaa_strategy.specs.Findings.{covered_by, covered_rank, raised, replies_rank, look_of, look_by, look_at}

won_zero : (w : Bool) (r : ℕ) → cond w (Some 0) None ≡ cond w (Some (cond w 0 r)) None
won_zero true r = refl
won_zero false r = refl

found_rank : (o : Option Planned) → option_map (λ (e : Planned). e.rank) o ≡ cond (is_some o) (Some (rank_in o)) None
found_rank None = refl
found_rank (Some e) = refl

raised_both : (c all : Bool) (r top : ℕ) → raised (cond c (Some r) None) (cond all (Some top) None) ≡ cond (c && all) (Some (max (suc r) top)) None
raised_both true true r top = refl
raised_both true false r top = refl
raised_both false all r top = refl

module _ (a : Color) (s : List Planned) where
  covered-by : (q : Position) (o : Option Ending) → covered_by a s q o ≡ cond (covered_for a s q o) (Some (cond (is_win_of a o) 0 (rank_in (find_entry s q)))) None
  covered-by q (Some e) = won_zero (same_color e.winner a) (rank_in (find_entry s q))
  covered-by q None = found_rank (find_entry s q)

  -- the rank of a position is there just where it is covered
  pub covered-rank : (q : Position) → covered_rank a s q ≡ cond (is_covered a s q) (Some (s_rank a s q)) None
  unfolding covered_rank
  covered-rank q = covered-by q (decided q)

  -- and so for a list
  pub replies-rank : (qs : List Position) → replies_rank a s qs ≡ cond (list_all (is_covered a s) qs) (Some (above (map (s_rank a s) qs))) None
  replies-rank [] = refl
  replies-rank (q ∷ qs) =
      (λ i. raised (covered-rank q i) (replies-rank qs i)) ∙ raised_both (is_covered a s q) (list_all (is_covered a s) qs) (s_rank a s q) (above (map (s_rank a s) qs))

-- what a look says: it is ready, and has this rank; or it isn't; or the list is too long
abbrev pub Says : Look → Bool → ℕ → Type 0 → Type 0
Says (looks.Rank r) ready rank Long = (ready ≡ true) × (r ≡ rank)
Says looks.Lost ready rank Long = ready ≡ false
Says looks.Open ready rank Long = ready ≡ false
Says looks.Crowded ready rank Long = Long

pub says_of : (ready : Bool) (rank : ℕ) (Long : Type 0) → Says (look_of (cond ready (Some rank) None)) ready rank Long
says_of true rank Long = (refl, refl)
says_of false rank Long = refl

module _ (room : ℕ) (a : Color) (barred : List Position) (s : List Planned) (q : Position) where
  -- the replies to q are more than there is room for
  abbrev pub IsLong : Option Ending → Type 0
  IsLong o = (o ≡ None) × (room < length (next barred q))

  says-by : (o : Option Ending) → Says (look_by room a barred s q o) (answered_for a barred s q o) (cond (is_win_of a o) 0 (above (map (s_rank a s) (next barred q)))) (IsLong o)
  says-by (Some e) =
      elim (same_color e.winner a) as (λ v. Says (cond v (looks.Rank 0) looks.Lost) v (cond v 0 (above (map (s_rank a s) (next barred q)))) (IsLong (Some e))) [ true ↦ (refl, refl) | false ↦ refl ]
  says-by None =
      elim (nat_lt room (length (next barred q))) as (λ v. nat_lt room (length (next barred q)) ≡ v → Says (cond v looks.Crowded (look_of (replies_rank a s (next barred q)))) (list_all (is_covered a s) (next barred q)) (above (map (s_rank a s) (next barred q))) (IsLong None)) [
        | true ↦ λ long. (refl, ltb-true _ _ long)
        | false ↦ λ short. subst (λ (o : Option ℕ). Says (look_of o) (list_all (is_covered a s) (next barred q)) (above (map (s_rank a s) (next barred q))) (IsLong None)) (sym (replies-rank a s (next barred q)))
            (says_of (list_all (is_covered a s) (next barred q)) (above (map (s_rank a s) (next barred q))) (IsLong None))
      ] refl

  -- what a look at a position with the defender to move says
  pub says-at : Says (look_at room a barred s q) (is_answered a barred s q) (q_rank a barred s q) (IsLong (decided q))
  unfolding look_at
  says-at = says-by (decided q)
