-- The first of some steps.
use Rattle.std.proofs.Common.{◌≡◌, ℕ, zero, suc, ◌+◌, ◌<◌, ◌≤◌, Bool, true, false, cond, None, Some, bit_or, max, refl, sym, ◌∙◌, ap, arith, ⊎_elim}
use Rattle.std.specs.Prelude.{◌==◌, ◌&&◌, ◌||◌, not}
use Rattle.std.specs.Int.{bit_at}
use Rattle.std.specs.List.{find, range_with_len}
use Rattle.std.proofs.lemmas.Bool.{cases_eq}
use Rattle.std.proofs.lemmas.Nat.Bits.{bit_at-lt, bit_at_or}
use Rattle.arimaa_board.specs.declared.square.Dir.{Dir}
use Rattle.arimaa_board.specs.declared.square.Dir.TheVariants.{North, East, South, West}
use Rattle.arimaa_board.specs.Masks.{IsMaskOf, is_in, first_in}
use Rattle.arimaa_board.proofs.Lemmas.Friends.{is_one}
use Rattle.arimaa_board.proofs.Lemmas.Finds.{all_fail}
use Rattle.arimaa_step.specs.declared.accepted_steps.AcceptedSteps.{AcceptedSteps}
use Rattle.arimaa_results.specs.NextStates.{has_step, same_dir, IsFirstDirection, IsTaken}

-- a square is in a mask exactly where it passes the test
pub in_mask : (test : ℕ → Bool) (mask n : ℕ) → IsMaskOf test mask → n < 64 → is_in mask n ≡ test n
in_mask test mask n is small = ap (λ b. b == 1) (is n small) ∙ is_one (test n)

max_is : (a b : ℕ) → a < 2 → b < 2 → (max a b == 1) ≡ (a == 1 || b == 1)
max_is zero zero a_small b_small = refl
max_is zero (suc zero) a_small b_small = refl
max_is (suc zero) zero a_small b_small = refl
max_is (suc zero) (suc zero) a_small b_small = refl
max_is zero (suc (suc b)) a_small b_small = absurd (omega arith)
max_is (suc zero) (suc (suc b)) a_small b_small = absurd (omega arith)
max_is (suc (suc a)) b a_small b_small = absurd (omega arith)

in_or : (x y n : ℕ) → is_in (bit_or x y) n ≡ (is_in x n || is_in y n)
in_or x y n = ap (λ b. b == 1) (bit_at_or x y n) ∙ max_is (bit_at x n) (bit_at y n) (bit_at-lt x n) (bit_at-lt y n)

-- the squares of some steps
abbrev pub squares_in : AcceptedSteps → ℕ
squares_in a = bit_or (bit_or (bit_or a.north a.east) a.south) a.west

in_squares : (a : AcceptedSteps) (n : ℕ) → is_in (squares_in a) n ≡ (((has_step a n North || has_step a n East) || has_step a n South) || has_step a n West)
in_squares a n =
    in_or (bit_or (bit_or a.north a.east) a.south) a.west n
    ∙ ap (λ v. v || is_in a.west n)
    (in_or (bit_or a.north a.east) a.south n
    ∙ ap (λ v. v || is_in a.south n) (in_or a.north a.east n))

no_direction : (t : Dir → Bool) → (((t North || t East) || t South) || t West) ≡ false → (d : Dir) → t d ≡ false
no_direction t none North = first (t North) (t East) (t South) (t West) none where
  first : (n e s w : Bool) → (((n || e) || s) || w) ≡ false → n ≡ false
  first true e s w h = cc
  first false e s w h = refl
no_direction t none East = second (t North) (t East) (t South) (t West) none where
  second : (n e s w : Bool) → (((n || e) || s) || w) ≡ false → e ≡ false
  second true e s w h = cc
  second false true s w h = cc
  second false false s w h = refl
no_direction t none South = third (t North) (t East) (t South) (t West) none where
  third : (n e s w : Bool) → (((n || e) || s) || w) ≡ false → s ≡ false
  third true e s w h = cc
  third false true s w h = cc
  third false false true w h = cc
  third false false false w h = refl
no_direction t none West = fourth (t North) (t East) (t South) (t West) none where
  fourth : (n e s w : Bool) → (((n || e) || s) || w) ≡ false → w ≡ false
  fourth true e s w h = cc
  fourth false true s w h = cc
  fourth false false true w h = cc
  fourth false false false true h = cc
  fourth false false false false h = refl

pub last_direction : (n e s w : Bool) → (((n || e) || s) || w) ≡ true → n ≡ false → e ≡ false → s ≡ false → w ≡ true
last_direction n e s w some no_n no_e no_s = sym (λ i. (((no_n i || no_e i) || no_s i) || w)) ∙ some

-- the first number that passes
record IsFirstFound (t : ℕ → Bool) (a k m : ℕ) : Type 0 where
  low : a ≤ m
  high : m < a + k
  passes : t m ≡ true
  before : (n : ℕ) → a ≤ n → n < m → t n ≡ false

first_found : (t : ℕ → Bool) (k a m : ℕ) → find t (range_with_len a k) ≡ Some m → IsFirstFound t a k m
first_found t zero a m found = cc
first_found t (suc k) a m found =
    elim (t a) as (λ v. t a ≡ v → cond v (Some a) (find t (range_with_len (a + 1) k)) ≡ Some m → IsFirstFound t a (suc k) m) [
      | true ↦ λ here is.
          let same : a ≡ m = cc in
          record { low = omega arith; high = omega arith; passes = sym (ap t same) ∙ here; before = λ n from to. absurd (omega arith) }
      | false ↦ λ out later.
          let rest = first_found t k (a + 1) m later in
          record {
            low = omega (arith, rest.low);
            high = omega (arith, rest.high);
            passes = rest.passes;
            before = λ n from to. ⊎_elim (λ (e : n ≡ a). ap t e ∙ out) (λ apart. rest.before n (omega arith) to) (cases_eq n a);
          }
    ] refl found

-- no step is there
pub none_there : (a : AcceptedSteps) → first_in (squares_in a) ≡ None → (n : ℕ) (d : Dir) → n < 64 → has_step a n d ≡ false
unfolding first_in
none_there a none n d small =
    no_direction (has_step a n) (sym (in_squares a n) ∙ all_fail (is_in (squares_in a)) 64 0 none n (omega arith) (omega arith)) d

-- the lowest square of some steps
pub record IsLowest (a : AcceptedSteps) (m : ℕ) : Type 0 where
  pub on_board : m < 64
  pub some : (((has_step a m North || has_step a m East) || has_step a m South) || has_step a m West) ≡ true
  pub none_lower : (n : ℕ) (d : Dir) → n < m → has_step a n d ≡ false

pub lowest_there : (a : AcceptedSteps) (m : ℕ) → first_in (squares_in a) ≡ Some m → IsLowest a m
unfolding first_in
lowest_there a m first =
    let found = first_found (is_in (squares_in a)) 64 0 m first in
    record {
      on_board = omega (arith, found.high);
      some = sym (in_squares a m) ∙ found.passes;
      none_lower = λ n d lower. no_direction (has_step a n) (sym (in_squares a n) ∙ found.before n (omega arith) lower) d;
    }

kept_by : (x y : Bool) → x ≡ (x && not (y && false))
kept_by true true = refl
kept_by true false = refl
kept_by false y = refl

taken_by : (x y : Bool) → (x && not y) ≡ (x && not (y && true))
taken_by x true = refl
taken_by x false = refl

-- a mask after a step was taken from it, or one in another direction
pub without_taken : (mask rest m : ℕ) → IsMaskOf (λ n. is_in mask n && not (n == m)) rest → (n : ℕ) → n < 64 → is_in rest n ≡ (is_in mask n && not (n == m && true))
without_taken mask rest m w n small = in_mask (λ k. is_in mask k && not (k == m)) rest n w small ∙ taken_by (is_in mask n) (n == m)

pub with_all : (mask m n : ℕ) → is_in mask n ≡ (is_in mask n && not (n == m && false))
with_all mask m n = kept_by (is_in mask n) (n == m)

module _ (a : AcceptedSteps) (m : ℕ) (d : Dir) where
  -- a mask has what is left of a direction's steps
  abbrev pub IsLeft : Dir → ℕ → Type 0
  IsLeft e rest = (n : ℕ) → n < 64 → is_in rest n ≡ (has_step a n e && not (n == m && same_dir e d))

  pub step_taken : IsLowest a m → has_step a m d ≡ true → IsFirstDirection (has_step a m) d
      → (north east south west : ℕ) → IsLeft North north → IsLeft East east → IsLeft South south → IsLeft West west
      → IsTaken a m d (record { north = north; east = east; south = south; west = west })
  step_taken lowest there first north east south west n e s w =
      record { on_board = lowest.on_board; there = there; none_lower = lowest.none_lower; none_earlier = first; left = by } where
        by : (k : ℕ) (f : Dir) → k < 64 → has_step (record { north = north; east = east; south = south; west = west }) k f ≡ (has_step a k f && not (k == m && same_dir f d))
        by k North small = n k small
        by k East small = e k small
        by k South small = s k small
        by k West small = w k small
