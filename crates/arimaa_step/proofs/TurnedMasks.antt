-- The masks of the steps that commute with a step.
use Rattle.std.proofs.Common.{◌≡◌, ℕ, ◌-◌, ◌^◌, ◌<◌, ◌==◌, ◌&&◌, Bool, true, false, Some, refl, sym, ◌∙◌, ap, subst, ⊎_elim, bit_and, bit_or, w64, ne_eqb, eq-eqb}
use Rattle.std.specs.Prelude.{◌||◌, not, nat_lt}
use Rattle.std.specs.Int.{bit_at, bit_not}
use Rattle.std.proofs.lemmas.Nat.Bits.{bit_at_ones, bit_at_ones_above}
use Rattle.std.proofs.lemmas.Bool.{cases_lt, cases_eq, lt-ltb, le-ltb}
use Rattle.arimaa_board.specs.declared.piece.Piece.{Piece}
use Rattle.arimaa_board.specs.declared.square.Dir.{Dir}
use Rattle.arimaa_board.specs.declared.square.Dir.TheVariants.{North, East, South, West}
use Rattle.arimaa_step.specs.declared.earlier_steps.EarlierSteps.{EarlierSteps}
use Rattle.arimaa_step.specs.declared.accepted_steps.AcceptedSteps.{AcceptedSteps}
use Rattle.arimaa_step.specs.declared.state.TurnState.{TurnState}
use Rattle.arimaa_step.specs.AcceptedSteps.{accepts, ends_by, mask_towards, AreAccepted, AreEnding}
use Rattle.arimaa_board.specs.declared.position.Step.{Step}
use Rattle.arimaa_board.specs.Square.{next_square, is_trap}
use Rattle.arimaa_board.specs.Masks.{bit_of, IsMaskOf, passes, is_beside}
use Rattle.arimaa_model.specs.Moves.{target, enters}
use Rattle.arimaa_model.specs.Results.{step_of}
use Rattle.arimaa_board.proofs.Lemmas.Beside.{upto_all}
use Rattle.arimaa_board.proofs.Lemmas.MaskLaws.{and_mask, or_mask, not_mask, like_mask}
use Rattle.std.proofs.lemmas.Bool.{eqb-true}
use Rattle.std.proofs.Math.Bool.{and-true, and_comm}
use Rattle.arimaa_step.specs.CommutingSteps.{is_of, is_close, is_trap_of, in_zone, commutes, commutes_before, moves_calmly, goes_calmly, AreEarlier, AreOthers, AreAcceptedInOrder, AreEndingInOrder}
use Rattle.arimaa_step.specs.Next.{next_state, goes_alone}

-- the ones below a place
pub ones_before : (k : ℕ) → IsMaskOf (λ n. nat_lt n k) (2 ^ k - 1)
ones_before k n small =
    ⊎_elim
    (λ (low : n < k). rw (lt-ltb n k low) (bit_at_ones k n low))
    (λ from. rw (le-ltb n k from) (bit_at_ones_above k n from))
    (cases_lt n k)

-- a test of equality takes its numbers in any order
turned_eq : (x y : ℕ) → (x == y) ≡ (y == x)
turned_eq x y =
    ⊎_elim (λ (e : x ≡ y). eq-eqb x y e ∙ sym (eq-eqb y x (sym e))) (λ apart. ne_eqb x y apart ∙ sym (ne_eqb y x (λ e. apart (sym e)))) (cases_eq x y)

-- the four traps
pub traps_mask : IsMaskOf is_trap 39582420959232
traps_mask n small = eqb-true _ _ (upto_all (λ i. bit_at 39582420959232 i == bit_of (is_trap i)) 64 refl n small)

-- the mask of the squares close to a step
pub close_mask : (s : Step) (own beside : ℕ) → IsMaskOf (is_of s) own → IsMaskOf (is_beside (is_of s)) beside → IsMaskOf (is_close s) (bit_or own beside)
unfolding is_close
close_mask s own beside is_own is_near = or_mask (is_of s) (is_beside (is_of s)) own beside is_own is_near

-- the mask of the traps on which it may take a piece off
pub trap_mask : (s : Step) (close : ℕ) → IsMaskOf (is_close s) close → IsMaskOf (is_trap_of s) (bit_and close 39582420959232)
trap_mask s close is = like_mask (λ n. is_close s n && is_trap n) (is_trap_of s) _ (λ n _. and_comm (is_close s n) (is_trap n)) (and_mask (is_close s) is_trap close 39582420959232 is traps_mask)

-- the mask of the zone of a step
pub zone_mask : (s : Step) (close beside : ℕ) → IsMaskOf (is_close s) close → IsMaskOf (is_beside (is_trap_of s)) beside → IsMaskOf (in_zone s) (bit_or close beside)
unfolding in_zone
zone_mask s close beside is_near is_beside_traps = or_mask (is_close s) (is_beside (is_trap_of s)) close beside is_near is_beside_traps

-- the mask of the squares of a step that stays on the board
pub two_squares : (s : Step) (to left entered : ℕ) → target s ≡ Some to → IsMaskOf (λ n. n == s.from) left → IsMaskOf (λ n. n == to) entered → IsMaskOf (is_of s) (bit_or left entered)
two_squares s to left entered is is_left is_entered =
    like_mask (λ n. n == s.from || n == to) (is_of s) _ (λ n _. ap (λ v. n == s.from || v) (turned_eq n to ∙ sym (ap (enters n) is)))
    (or_mask (λ n. n == s.from) (λ n. n == to) left entered is_left is_entered)

-- outside the zone of a step, and before it
pub commutes_mask : (s : Step) (d : Dir) (p : Piece) (mask : ℕ) → IsMaskOf (λ n. (not (in_zone s n) && passes (λ m. not (in_zone s m)) (next_square n d)) && nat_lt n s.from) mask → IsMaskOf (λ n. commutes_before s (step_of n d p)) mask
unfolding commutes
commutes_mask s d p mask h = h

-- the masks of the four directions
pub by_direction : (s : Step) (e : EarlierSteps) → ((p : Piece) → IsMaskOf (λ n. commutes_before s (step_of n North p)) e.north) → ((p : Piece) → IsMaskOf (λ n. commutes_before s (step_of n East p)) e.east) → ((p : Piece) → IsMaskOf (λ n. commutes_before s (step_of n South p)) e.south) → ((p : Piece) → IsMaskOf (λ n. commutes_before s (step_of n West p)) e.west) → AreEarlier s e
by_direction s e n ea so w North = n
by_direction s e n ea so w East = ea
by_direction s e n ea so w South = so
by_direction s e n ea so w West = w

-- the accepted steps in a direction but for the earlier ones
pub others_mask : (st : TurnState) (s : Step) (d : Dir) (p : Piece) (steps earlier : ℕ) → earlier < 2 ^ 64 → IsMaskOf (accepts st d) steps → IsMaskOf (λ n. commutes_before s (step_of n d p)) earlier → IsMaskOf (λ n. accepts st d n && not (commutes_before s (step_of n d p))) (bit_and steps (bit_not w64 earlier))
others_mask st s d p steps earlier fits is_ok_there is_earlier =
    and_mask (accepts st d) (λ n. not (commutes_before s (step_of n d p))) steps _ is_ok_there (not_mask (λ n. commutes_before s (step_of n d p)) earlier fits is_earlier)

pub others_by_direction : (st : TurnState) (s : Step) (a : AcceptedSteps)
    → ((p : Piece) → IsMaskOf (λ n. accepts st North n && not (commutes_before s (step_of n North p))) a.north)
    → ((p : Piece) → IsMaskOf (λ n. accepts st East n && not (commutes_before s (step_of n East p))) a.east)
    → ((p : Piece) → IsMaskOf (λ n. accepts st South n && not (commutes_before s (step_of n South p))) a.south)
    → ((p : Piece) → IsMaskOf (λ n. accepts st West n && not (commutes_before s (step_of n West p))) a.west)
    → AreOthers st s a
others_by_direction st s a n ea so w North = n
others_by_direction st s a n ea so w East = ea
others_by_direction st s a n ea so w South = so
others_by_direction st s a n ea so w West = w

-- some steps in a direction but for the earlier ones
pub others_of : (test : ℕ → Bool) (s : Step) (d : Dir) (p : Piece) (steps earlier : ℕ) → earlier < 2 ^ 64 → IsMaskOf test steps → IsMaskOf (λ n. commutes_before s (step_of n d p)) earlier → IsMaskOf (λ n. test n && not (commutes_before s (step_of n d p))) (bit_and steps (bit_not w64 earlier))
others_of test s d p steps earlier fits is_there is_earlier =
    and_mask test (λ n. not (commutes_before s (step_of n d p))) steps _ is_there (not_mask (λ n. commutes_before s (step_of n d p)) earlier fits is_earlier)

module _ (test : Dir → ℕ → Bool) (s : Step) (a : AcceptedSteps) where
  abbrev IsOthers : Dir → Type 0
  IsOthers d = (p : Piece) → IsMaskOf (λ n. test d n && not (commutes_before s (step_of n d p))) (mask_towards a d)

  pub others_each : IsOthers North → IsOthers East → IsOthers South → IsOthers West → (d : Dir) → IsOthers d
  others_each n ea so w North = n
  others_each n ea so w East = ea
  others_each n ea so w South = so
  others_each n ea so w West = w

-- the steps that end a move after a step, by whether that is a single one
pub in_order_alone : (st : TurnState) (s : Step) (a : AcceptedSteps) → goes_alone st s ≡ true
    → ((d : Dir) (p : Piece) → IsMaskOf (λ n. ends_by (next_state st s) d n && not (commutes_before s (step_of n d p))) (mask_towards a d)) → AreEndingInOrder st s a
in_order_alone st s a alone h d p n small = subst (λ v. bit_at (mask_towards a d) n ≡ bit_of (ends_by (next_state st s) d n && not (v && commutes_before s (step_of n d p)))) (sym alone) (h d p n small)

pub in_order_other : (st : TurnState) (s : Step) (a : AcceptedSteps) → goes_alone st s ≡ false → AreEnding (next_state st s) a → AreEndingInOrder st s a
in_order_other st s a other h d p n small =
    subst (λ v. bit_at (mask_towards a d) n ≡ bit_of (ends_by (next_state st s) d n && not (v && commutes_before s (step_of n d p)))) (sym other)
    (h d n small ∙ sym (ap bit_of (and-true (ends_by (next_state st s) d n))))

-- the steps that are accepted after a step, by whether that is a single one after which no pull may follow
module _ (st : TurnState) (s : Step) (a : AcceptedSteps) where
  abbrev S : TurnState
  S = next_state st s

  abbrev IsLeft : Dir → Type 0
  IsLeft d = (p : Piece) → IsMaskOf (λ n. accepts S d n && not (commutes_before s (step_of n d p) && moves_calmly S n)) (mask_towards a d)

  pub in_order_calm : goes_calmly st s ≡ true → IsLeft North → IsLeft East → IsLeft South → IsLeft West → AreAcceptedInOrder st s a
  in_order_calm calm north east south west d p n small =
      subst (λ v. bit_at (mask_towards a d) n ≡ bit_of (accepts S d n && not (v && (commutes_before s (step_of n d p) && moves_calmly S n)))) (sym calm) (each d p n small) where
        each : (e : Dir) → IsLeft e
        each North = north
        each East = east
        each South = south
        each West = west

  pub in_order_all : goes_calmly st s ≡ false → AreAccepted S a → AreAcceptedInOrder st s a
  in_order_all other all d p n small =
      subst (λ v. bit_at (mask_towards a d) n ≡ bit_of (accepts S d n && not (v && (commutes_before s (step_of n d p) && moves_calmly S n)))) (sym other)
      (all d n small ∙ sym (ap bit_of (and-true (accepts S d n))))
