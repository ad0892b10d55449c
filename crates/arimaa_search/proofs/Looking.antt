-- What a look through the next positions answers.
use Rattle.std.proofs.Common.{◌≡◌, ℕ, suc, ◌+◌, ◌≤◌, List, [], ◌∷◌, length, None, Bool, true, false, cond, not, Ok, Err, Result, drop, refl, sym, subst, arith}
use mathlib.Core.Bool.{beq}
use Rattle.arimaa_board.specs.declared.piece.Color.{Color}
use Rattle.arimaa_board.specs.Board.{same_color}
use Rattle.arimaa_board.specs.declared.position.Position.{Position}
use Rattle.arimaa_model.specs.DecidedPositions.{decided}
use Rattle.arimaa_model.specs.Results.{next}
use Rattle.arimaa_forced.specs.Search.{is_decisive, cost}
use Rattle.arimaa_forced.proofs.Lemmas.Midst.{Midst, midst-start, midst-more, midst-decisive, midst-end, midst-paid, midst-all_paid, midst-dear, midst-wide}
use Rattle.arimaa_search.specs.declared.stop.Stop.{Stop}
use Rattle.arimaa_search.specs.declared.stop.Stop.TheVariants as stop
use Rattle.arimaa_search.specs.PaidAnswers.{IsPaid, Answered}
use Rattle.arimaa_search.specs.Traces.{GoesPast}

module _ (a : Color) (barred : List Position) (n : ℕ) (p : Position) (room live : ℕ) where
  -- the first of the rest is decisive
  pub decisive-answer : (q : Position) (rest : List Position) (began left after : ℕ) → Midst a barred n p (q ∷ rest) began left → decided p ≡ None → IsPaid left after (cost a barred n q)
      → is_decisive a barred n p q ≡ true → Answered a barred (suc n) p room live (began + 1) after (Ok (same_color p.side a))
  decisive-answer q rest began left after m undecided paid ends =
      let falls = m.falls in
      let whole = midst-paid a barred n p q rest began left after m undecided paid.most in
      let here = paid.falls in
      (sym (midst-decisive a barred n p q rest began left m undecided ends), record { falls = omega arith; most = omega arith })

  -- none was
  pub end-answer : (began left : ℕ) → Midst a barred n p [] began left → decided p ≡ None → Answered a barred (suc n) p room live (began + 1) left (Ok (not (same_color p.side a)))
  end-answer began left m undecided =
      let falls = m.falls in
      let whole = midst-all_paid a barred n p began left m undecided in
      (sym (midst-end a barred n p began left m undecided), record { falls = omega arith; most = omega arith })

  -- the question on the first of the rest stopped
  pub stopped-answer : (r : Result Bool Stop) (stopped : Stop) (space held : ℕ) (q : Position) (rest : List Position) (began left after : ℕ) → Midst a barred n p (q ∷ rest) began left → decided p ≡ None
      → r ≡ Err stopped → space ≡ room → held ≤ live + length (next barred p) → Answered a barred n q space held left after r → Answered a barred (suc n) p room live (began + 1) after r
  stopped-answer (Ok v) stopped space held q rest began left after m undecided is all full answer = absurd (cc)
  stopped-answer (Err stop.Spent) stopped space held q rest began left after m undecided is all full answer =
      let dear = answer.0 in
      let whole = midst-dear a barred n p q rest began left m undecided (omega arith) in
      (omega arith, answer.1)
  stopped-answer (Err stop.Crowded) stopped space held q rest began left after m undecided is all full answer =
      let falls = m.falls in
      let paid = answer.1 in
      let whole = midst-paid a barred n p q rest began left after m undecided paid.most in
      let most = midst-wide a barred n p q rest began left m undecided in
      let over = answer.0 in
      (omega arith, record { falls = omega arith; most = omega arith })

  -- the question on the first stopped, before the list of all was made
  pub early-answer : (r : Result Bool Stop) (stopped : Stop) (q : Position) (rest : List Position) (left after : ℕ) → Midst a barred n p (q ∷ rest) left left → decided p ≡ None
      → r ≡ Err stopped → Answered a barred n q room live left after r → Answered a barred (suc n) p room live (left + 1) after r
  early-answer (Ok v) stopped q rest left after m undecided is answer = absurd (cc)
  early-answer (Err stop.Spent) stopped q rest left after m undecided is answer =
      let dear = answer.0 in
      let whole = midst-dear a barred n p q rest left left m undecided (omega arith) in
      (omega arith, answer.1)
  early-answer (Err stop.Crowded) stopped q rest left after m undecided is answer =
      let paid = answer.1 in
      let falls = paid.falls in
      let whole = midst-paid a barred n p q rest left left after m undecided paid.most in
      let most = midst-wide a barred n p q rest left left m undecided in
      let over = answer.0 in
      (omega arith, record { falls = omega arith; most = omega arith })

-- a look goes past the first next position, as though this one cost what it may
pub midst-past : (a : Color) (barred : List Position) (n : ℕ) (p reply : Position) (left : ℕ) → GoesPast a barred n p reply → Midst a barred n p (drop 1 (next barred p)) (left + cost a barred n reply) left
midst-past a barred n p reply left past =
    let began : ℕ = left + cost a barred n reply in
    let start : Midst a barred n p (reply ∷ drop 1 (next barred p)) began began = subst (λ rest. Midst a barred n p rest began began) past.0 (midst-start a barred n p began) in
    midst-more a barred n p reply (drop 1 (next barred p)) began began left start (omega arith) (omega arith) past.1

-- the verdict on a next position is decisive just where it is the one that the side to move wants
pub decisive-by : (own won : Bool) → cond own won (not won) ≡ beq won own
decisive-by true true = refl
decisive-by true false = refl
decisive-by false true = refl
decisive-by false false = refl
