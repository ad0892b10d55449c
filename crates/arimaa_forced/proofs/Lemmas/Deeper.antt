-- The definitions, one turn deeper.
use Rattle.std.proofs.Common.{◌≡◌, ℕ, zero, suc, ◌+◌, ◌≤◌, List, [], ◌∷◌, length, Option, None, Some, Bool, true, false, not, refl, sym, ◌∙◌, ap, arith}
use Rattle.std.specs.Prelude.{sum_by}
use Rattle.arimaa_board.specs.declared.piece.Color.{Color}
use Rattle.arimaa_board.specs.Board.{same_color}
use Rattle.arimaa_board.specs.declared.position.Position.{Position}
use Rattle.arimaa_board.specs.declared.ending.Ending.{Ending}
use Rattle.arimaa_model.specs.DecidedPositions.{decided}
use Rattle.arimaa_model.specs.Results.{next}
use Rattle.arimaa_model.specs.Wins.{is_nil, wins, wins_among}
use Rattle.arimaa_model.proofs.Lemmas.WinsLaws.{wins-stuck, wins-deeper}
use Rattle.arimaa_forced.specs.Search.{if_open, sum_to, largest, is_decisive, size, cost, crowd}

pub among-none : (own : Bool) (won : Position → Bool) → wins_among own won [] ≡ not own
among-none true won = refl
among-none false won = refl

pub open-some : (o : Option Ending) (k : ℕ) → 1 ≤ if_open o (1 + k) 1
open-some None k = omega arith
open-some (Some e) k = omega arith

module _ (a : Color) (barred : List Position) (p : Position) where
  -- what is won one turn deeper, also where there is no next position
  pub wins-open : (n : ℕ) → decided p ≡ None → wins a barred (suc n) p ≡ wins_among (same_color p.side a) (wins a barred n) (next barred p)
  wins-open n undecided =
      elim (next barred p) as (λ l. next barred p ≡ l → wins a barred (suc n) p ≡ wins_among (same_color p.side a) (wins a barred n) l) [
        | [] ↦ λ none. wins-stuck a barred p (suc n) undecided none ∙ sym (among-none (same_color p.side a) (wins a barred n))
        | q ∷ qs ↦ λ is. wins-deeper a barred p n undecided (ap is_nil is) ∙ ap (wins_among (same_color p.side a) (wins a barred n)) is
      ] refl

  pub cost-some : (n : ℕ) → 1 ≤ cost a barred n p
  unfolding cost
  cost-some zero = omega arith
  cost-some (suc n) = open-some (decided p) _

  pub cost-deeper : (n : ℕ) → decided p ≡ None → cost a barred (suc n) p ≡ 1 + sum_to (is_decisive a barred n p) (cost a barred n) (next barred p)
  unfolding cost
  cost-deeper n undecided = rw undecided refl

  pub cost-decided : (n : ℕ) (e : Ending) → decided p ≡ Some e → cost a barred n p ≡ 1
  unfolding cost
  cost-decided zero e is = refl
  cost-decided (suc n) e is = rw is refl

module _ (barred : List Position) (p : Position) where
  pub size-some : (n : ℕ) → 1 ≤ size barred n p
  unfolding size
  size-some zero = omega arith
  size-some (suc n) = open-some (decided p) _

  pub size-deeper : (n : ℕ) → decided p ≡ None → size barred (suc n) p ≡ 1 + sum_by (size barred n) (next barred p)
  unfolding size
  size-deeper n undecided = rw undecided refl

  pub size-decided : (n : ℕ) (e : Ending) → decided p ≡ Some e → size barred n p ≡ 1
  unfolding size
  size-decided zero e is = refl
  size-decided (suc n) e is = rw is refl

  pub crowd-deeper : (n : ℕ) → decided p ≡ None → crowd barred (suc n) p ≡ length (next barred p) + largest (crowd barred n) (next barred p)
  unfolding crowd
  crowd-deeper n undecided = rw undecided refl

  pub crowd-decided : (n : ℕ) (e : Ending) → decided p ≡ Some e → crowd barred n p ≡ 0
  unfolding crowd
  crowd-decided zero e is = refl
  crowd-decided (suc n) e is = rw is refl
