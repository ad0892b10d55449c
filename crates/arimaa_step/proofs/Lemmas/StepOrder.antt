-- The steps of a board in order: what leaves an earlier square stands before.
use Rattle.std.proofs.Common.{◌≡◌, ℕ, zero, suc, ◌+◌, ◌<◌, ◌≤◌, List, [], ◌∷◌, ◌++◌, inl, inr, ⊎_elim, Option, None, Some, refl, ap, arith}
use Rattle.std.specs.List.{flat_map, range_with_len}
use Rattle.arimaa_board.specs.declared.piece.Piece.{Piece}
use Rattle.arimaa_board.specs.declared.square.Dir.TheVariants.{North, East, South, West}
use Rattle.arimaa_board.specs.declared.board.Board.{Board}
use Rattle.arimaa_board.specs.declared.position.Step.{Step}
use Rattle.arimaa_board.specs.Board.{at}
use Rattle.arimaa_model.specs.Results.{step_of, squares}
use Rattle.arimaa_model.specs.Plain.{steps_of, candidates}
use Rattle.arimaa_model.proofs.Lemmas.Members.{In, In-append}

-- no later step leaves an earlier square
abbrev pub Rising : List Step → Type 0
Rising [] = Unit {0}
Rising (s ∷ rest) = ((t : Step) → In t rest → s.from ≤ t.from) × Rising rest

-- each step leaves this square
abbrev AllFrom : ℕ → List Step → Type 0
AllFrom n xs = (t : Step) → In t xs → t.from ≡ n

rising-same : (n : ℕ) (xs : List Step) → AllFrom n xs → Rising xs
rising-same n [] all = tt
rising-same n (s ∷ rest) all = (
  λ t i. let a = all s (inl refl) in let b = all t (inr i) in omega arith,
  rising-same n rest (λ t i. all t (inr i)),
)

rising-append : (xs ys : List Step) → Rising xs → Rising ys → ((s t : Step) → In s xs → In t ys → s.from ≤ t.from) → Rising (xs ++ ys)
rising-append [] ys one two order = two
rising-append (s ∷ rest) ys one two order = (
  λ t i. ⊎_elim (λ j. one.0 t j) (λ j. order s t (inl refl) j) (In-append t rest ys i),
  rising-append rest ys one.1 two (λ u t i j. order u t (inr i) j),
)

from_square : (n : ℕ) (o : Option Piece) → AllFrom n (steps_of n o)
from_square n None t i = absurd i
from_square n (Some p) t i = four i where
  four : In t (step_of n North p ∷ step_of n East p ∷ step_of n South p ∷ step_of n West p ∷ []) → t.from ≡ n
  four (inl e) = ap (λ (s : Step). s.from) e
  four (inr (inl e)) = ap (λ (s : Step). s.from) e
  four (inr (inr (inl e))) = ap (λ (s : Step). s.from) e
  four (inr (inr (inr (inl e)))) = ap (λ (s : Step). s.from) e
  four (inr (inr (inr (inr none)))) = absurd none

module _ (b : Board) where
  abbrev steps_from : ℕ → List Step
  steps_from n = steps_of n (at b n)

  not_before : (k len : ℕ) (t : Step) → In t (flat_map steps_from (range_with_len k len)) → k ≤ t.from
  not_before k zero t i = absurd i
  not_before k (suc len) t i =
      ⊎_elim
      (λ j. let e = from_square k (at b k) t j in omega arith)
      (λ j. let later : k + 1 ≤ t.from = not_before (k + 1) len t j in omega arith)
      (In-append t (steps_from k) (flat_map steps_from (range_with_len (k + 1) len)) i)

  rising_from : (k len : ℕ) → Rising (flat_map steps_from (range_with_len k len))
  rising_from k zero = tt
  rising_from k (suc len) =
      rising-append (steps_from k) (flat_map steps_from (range_with_len (k + 1) len)) (rising-same k (steps_from k) (from_square k (at b k))) (rising_from (k + 1) len)
      (λ s t i j. let e = from_square k (at b k) s i in let later : k + 1 ≤ t.from = not_before (k + 1) len t j in omega arith)

  -- the steps of a board leave its squares in order
  pub candidates-rising : Rising (candidates b)
  unfolding candidates squares
  candidates-rising = rising_from 0 64

-- where no later step leaves an earlier square, a step from an earlier square stands before
pub stands_before : (earlier later : List Step) (s t : Step) → Rising (earlier ++ s ∷ later) → In t (earlier ++ s ∷ later) → t.from < s.from → In t earlier
stands_before [] later s t order i less =
    ⊎_elim
    (λ (e : t ≡ s). let same : t.from ≡ s.from = ap (λ (u : Step). u.from) e in absurd (omega arith))
    (λ j. let after : s.from ≤ t.from = order.0 t j in absurd (omega arith))
    i
stands_before (u ∷ earlier) later s t order (inl e) less = inl e
stands_before (u ∷ earlier) later s t order (inr i) less = inr (stands_before earlier later s t order.1 i less)
