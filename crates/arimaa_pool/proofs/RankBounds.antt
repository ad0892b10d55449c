-- Ranks that are not below some depth.
use Rattle.std.proofs.Common.{◌≡◌, ℕ, zero, suc, ◌+◌, ◌-◌, ◌<◌, ◌≤◌, List, [], ◌∷◌, true, false, Some, None, length, is_some, ◌⊎◌, inl, ⊎_elim, refl, sym, ◌∙◌, ap, subst, arith}
use Rattle.std.proofs.lemmas.Bool.{both_ways, cases_lt, false_from_ne_true}
use Rattle.arimaa_board.specs.declared.piece.Color.{Color}
use Rattle.arimaa_board.specs.declared.position.Position.{Position}
use Rattle.arimaa_model.specs.DecidedPositions.{decided}
use Rattle.arimaa_model.specs.Members.{Stands}
use Rattle.arimaa_model.specs.Results.{next}
use Rattle.arimaa_model.specs.Wins.{wins, is_nil}
use Rattle.arimaa_model.proofs.Lemmas.WinsLaws.{wins-decided, wins-end}
use Rattle.arimaa_forced.specs.Search.{looked_at, crowd, largest}
use Rattle.arimaa_forced.specs.Needs.{IsAsked, itself, place}
use Rattle.arimaa_forced.proofs.Lemmas.Deeper.{crowd-deeper}
use Rattle.arimaa_model.specs.Ranks.{IsRank, rank_within}
use Rattle.arimaa_model.proofs.Lemmas.Ranking.{wins-le, rank-is, rank-from, one-rank}

module _ (a : Color) (barred : List Position) (p : Position) where
  -- where it is not won below this depth, the rank is no lower
  pub rank-least : (n d : ℕ) → d ≤ n → ((j : ℕ) → j < d → wins a barred j p ≡ false) → d ≤ rank_within a barred n p
  rank-least n d within lost =
      elim (wins a barred n p) as (λ v. wins a barred n p ≡ v → d ≤ rank_within a barred n p) [
        | true ↦ λ won.
            let exact = rank-is a barred n p won in
            ⊎_elim
            (λ (low : rank_within a barred n p < d). absurd (both_ways _ (lost (rank_within a barred n p) low) exact.won))
            (λ (high : d ≤ rank_within a barred n p). high)
            (cases_lt (rank_within a barred n p) d)
        | false ↦ λ none.
            let last : n ≡ rank_within a barred n p = rank-from a barred n n p (omega arith) (λ j less. false_from_ne_true _ (λ won. both_ways _ none (wins-le a barred j n p (omega arith) won))) (inl refl) in
            omega arith
      ] refl

  -- the rank is the same within any number of turns that is enough
  pub rank-same : (r n : ℕ) → IsRank a barred p r → r ≤ n → rank_within a barred n p ≡ r
  rank-same r n exact within = one-rank a barred p (rank_within a barred n p) r (rank-is a barred n p (wins-le a barred r n p within exact.won)) exact

module _ (a : Color) (barred : List Position) where
  -- the question itself is asked about
  pub asked_itself : (p q : Position) (j k m : ℕ) → q ≡ p → j ≡ k → k ≤ m → IsAsked a barred p m q j
  asked_itself p q j k m same depth within = subst (λ (x : Position). IsAsked a barred p m x j) (sym same) (subst (λ (i : ℕ). IsAsked a barred p m p i) (sym depth) (itself k within))

  -- and so is a next position that is looked at below the rank
  pub asked_place : (p q : Position) (j k m : ℕ) → decided p ≡ None → j ≡ k → k < m → Stands (looked_at a barred k p) q → IsAsked a barred p m q j
  asked_place p q j k m undecided depth less there = subst (λ (i : ℕ). IsAsked a barred p m q i) (sym depth) (place q k undecided less there)

  -- what is decided and not won at once is never won
  pub decided-lost : (p : Position) (n : ℕ) → is_some (decided p) ≡ true → wins a barred 0 p ≡ false → wins a barred n p ≡ false
  decided-lost p n some lost =
      elim (decided p) as (λ o. decided p ≡ o → is_some o ≡ true → wins a barred n p ≡ false) [
        | None ↦ λ is none. absurd (cc)
        | Some e ↦ λ is some. wins-decided a barred p n e is ∙ (sym (wins-decided a barred p 0 e is) ∙ lost)
      ] refl some

  -- an undecided position whose list is longer than the room is crowded at each depth from 1 on
  pub long-crowd : (p : Position) (n room : ℕ) → decided p ≡ None → 1 ≤ n → room < length (next barred p) → room < crowd barred n p
  long-crowd p n room undecided some long =
      let deep : suc (n - 1) ≡ n = omega arith in
      let sum : crowd barred n p ≡ length (next barred p) + largest (crowd barred (n - 1)) (next barred p) = ap (λ m. crowd barred m p) (sym deep) ∙ crowd-deeper barred p (n - 1) undecided in
      omega arith

module _ (a : Color) (barred : List Position) where
  -- a position that is won is crowded at its depth, where its list is longer than the room
  pub won-crowd : (p : Position) (n room : ℕ) → decided p ≡ None → wins a barred n p ≡ true → room < length (next barred p) → room < crowd barred n p
  won-crowd p zero room undecided won long =
      elim (next barred p) as (λ l. next barred p ≡ l → room < length l → room < crowd barred zero p) [
        | [] ↦ λ is none. absurd (omega arith)
        | q ∷ qs ↦ λ is some. absurd (both_ways _ (wins-end a barred p undecided (ap is_nil is)) won)
      ] refl long
  won-crowd p (suc n) room undecided won long = long-crowd a barred p (suc n) room undecided (omega arith) long
