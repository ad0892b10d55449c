-- A look through the next positions, up to the first decisive one.
use Rattle.std.proofs.Common.{◌≡◌, ℕ, suc, ◌+◌, ◌-◌, List, [], ◌∷◌, None, Some, Bool, true, false, cond, not, ◌&&◌, ◌||◌, is_some, ◌⊎◌, inl, inr, refl, sym, ◌∙◌, ap, true≢false}
use Rattle.std.specs.Prelude.{sum_by}
use Rattle.std.specs.List.{find, list_any, list_all}
use Rattle.std.proofs.lemmas.List.Sums.{sum_by-cons}
use Rattle.arimaa_board.specs.declared.piece.Color.{Color}
use Rattle.arimaa_board.specs.Board.{same_color}
use Rattle.arimaa_board.specs.declared.position.Position.{Position}
use Rattle.arimaa_model.specs.DecidedPositions.{decided}
use Rattle.arimaa_model.specs.Results.{next}
use Rattle.arimaa_model.specs.Wins.{wins, wins_among}
use Rattle.arimaa_model.specs.Ranks.{IsRank, rank_within}
use Rattle.arimaa_model.specs.Strategies.{IsOpen, result_at, entry_of}
use Rattle.arimaa_model.proofs.Lemmas.Members.{In, find-is}
use Rattle.arimaa_model.proofs.Lemmas.Ranking.{best-exact, has_rank-is}
use Rattle.arimaa_model.proofs.Lemmas.FirstTurns.{best-result}
use Rattle.arimaa_forced.specs.Search.{up_to, sum_to, is_decisive, first_decisive}
use Rattle.arimaa_forced.proofs.Lemmas.Deeper.{wins-open}

-- the same test for all members finds the same
find-agree : (f g : Position → Bool) (qs : List Position) → ((q : Position) → f q ≡ g q) → find f qs ≡ find g qs
find-agree f g [] same = refl
find-agree f g (q ∷ qs) same = rw (same q) (ap (cond (g q) (Some q)) (find-agree f g qs same))

module _ (ends : Position → Bool) where
  pub up_to-In : (x : Position) (qs : List Position) → In x (up_to ends qs) → In x qs
  up_to-In x [] i = i
  up_to-In x (q ∷ qs) (inl e) = inl e
  up_to-In x (q ∷ qs) (inr i) = elim (ends q) as (λ v. In x (cond v [] (up_to ends qs)) → In x (q ∷ qs)) [ true ↦ λ none. absurd none | false ↦ λ j. inr (up_to-In x qs j) ] i

  pub found-up_to : (x : Position) (qs : List Position) → find ends qs ≡ Some x → In x (up_to ends qs)
  found-up_to x [] found = let wrong : true ≡ false = cc in absurd (true≢false wrong)
  found-up_to x (q ∷ qs) found =
      elim (ends q) as (λ v. cond v (Some q) (find ends qs) ≡ Some x → (x ≡ q) ⊎ In x (cond v [] (up_to ends qs))) [
        | true ↦ λ f. let same : x ≡ q = cc in inl same
        | false ↦ λ f. inr (found-up_to x qs f)
      ] found

  pub up_to-found : (x : Position) (qs : List Position) → In x (up_to ends qs) → ends x ≡ true → find ends qs ≡ Some x
  up_to-found x [] i here = absurd i
  up_to-found x (q ∷ qs) (inl e) here = let first : ends q ≡ true = ap ends (sym e) ∙ here in rw first (ap Some (sym e))
  up_to-found x (q ∷ qs) (inr i) here =
      elim (ends q) as (λ v. In x (cond v [] (up_to ends qs)) → cond v (Some q) (find ends qs) ≡ Some x) [ true ↦ λ none. absurd none | false ↦ λ j. up_to-found x qs j here ] i

  pub up_to-all : (qs : List Position) → find ends qs ≡ None → up_to ends qs ≡ qs
  up_to-all [] none = refl
  up_to-all (q ∷ qs) none =
      elim (ends q) as (λ v. cond v (Some q) (find ends qs) ≡ None → q ∷ cond v [] (up_to ends qs) ≡ q ∷ qs) [
        | true ↦ λ f. let wrong : true ≡ false = cc in absurd (true≢false wrong)
        | false ↦ λ f. ap (λ l. q ∷ l) (up_to-all qs f)
      ] none

  pub sum_to-sum : (f : Position → ℕ) (qs : List Position) → sum_to ends f qs ≡ sum_by f (up_to ends qs)
  sum_to-sum f [] = refl
  sum_to-sum f (q ∷ qs) =
      elim (ends q) as (λ v. f q + cond v 0 (sum_to ends f qs) ≡ sum_by f (q ∷ cond v [] (up_to ends qs))) [
        | true ↦ sym (sum_by-cons f q [])
        | false ↦ ap (λ (k : ℕ). f q + k) (sum_to-sum f qs) ∙ sym (sum_by-cons f q (up_to ends qs))
      ]

-- some pass where one is found, and all pass where none is found that does not
any-found : (t : Position → Bool) (qs : List Position) → list_any t qs ≡ is_some (find t qs)
any-found t [] = refl
any-found t (q ∷ qs) = elim (t q) as (λ v. (v || list_any t qs) ≡ is_some (cond v (Some q) (find t qs))) [ true ↦ refl | false ↦ any-found t qs ]

all-found : (t : Position → Bool) (qs : List Position) → list_all t qs ≡ not (is_some (find (λ q. not (t q)) qs))
all-found t [] = refl
all-found t (q ∷ qs) = elim (t q) as (λ v. (v && list_all t qs) ≡ not (is_some (cond (not v) (Some q) (find (λ x. not (t x)) qs)))) [ true ↦ all-found t qs | false ↦ refl ]

among-found : (own : Bool) (won : Position → Bool) (qs : List Position) → wins_among own won qs ≡ cond (is_some (find (λ q. cond own (won q) (not (won q))) qs)) own (not own)
among-found true won qs = any-found won qs ∙ either (is_some (find won qs)) where
  either : (v : Bool) → v ≡ cond v true false
  either true = refl
  either false = refl
among-found false won qs = all-found won qs ∙ either (is_some (find (λ q. not (won q)) qs)) where
  either : (v : Bool) → not v ≡ cond v false true
  either true = refl
  either false = refl

module _ (a : Color) (barred : List Position) where
  pub wins-found : (n : ℕ) (p : Position) → decided p ≡ None → wins a barred (suc n) p ≡ cond (is_some (first_decisive a barred n p)) (same_color p.side a) (not (same_color p.side a))
  wins-found n p undecided = wins-open a barred p n undecided ∙ among-found (same_color p.side a) (wins a barred n) (next barred p)

  -- with the attacker to move, what is decisive is what is won
  pub own-first : (n : ℕ) (p : Position) → same_color p.side a ≡ true → first_decisive a barred n p ≡ find (wins a barred n) (next barred p)
  own-first n p own = find-agree (is_decisive a barred n p) (wins a barred n) (next barred p) (λ q. rw own refl)

  pub first-played : (n : ℕ) (p : Position) → IsOpen a barred n p → first_decisive a barred (rank_within a barred n p - 1) p ≡ result_at (entry_of a barred n p)
  first-played n p is = own-first (rank_within a barred n p - 1) p is.own ∙ best-result a barred n p is

  pub first-exact : (n : ℕ) (p q : Position) → decided p ≡ None → same_color p.side a ≡ true → IsRank a barred p (suc n) → first_decisive a barred n p ≡ Some q → IsRank a barred q n
  first-exact n p q undecided own rank found =
      let here = find-is (wins a barred n) q (next barred p) (sym (own-first n p own) ∙ found) in
      has_rank-is a barred n q (best-exact a barred n p q own undecided rank here.0 here.1)
