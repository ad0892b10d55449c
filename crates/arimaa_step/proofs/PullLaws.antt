-- A piece that ends a pull stands beside the square that the puller left.
use Rattle.std.proofs.Common.{◌≡◌, ℕ, ◌+◌, ◌-◌, ◌%◌, ◌<◌, Bool, true, false, cond, length, Option, None, Some, refl, sym, ◌∙◌, ap, arith, eqb-true}
use Rattle.std.specs.Prelude.{◌||◌, nat_lt, nat_le}
use Rattle.std.specs.List.{list_any}
use Rattle.std.proofs.lemmas.Bool.{or_left, or_right, and_parts, true≢false}
use Rattle.std.proofs.lemmas.Bool.Decides.{nat_tests}
use Rattle.arimaa_board.specs.declared.square.Dir.{Dir}
use Rattle.arimaa_board.specs.declared.square.Dir.TheVariants.{North, East, South, West}
use Rattle.arimaa_board.specs.declared.board.Board.{Board}
use Rattle.arimaa_board.specs.declared.position.Step.{Step}
use Rattle.arimaa_board.specs.Square.{next_square, directions}
use Rattle.arimaa_board.specs.Board.{at, holds, settle, kept}
use Rattle.arimaa_board.specs.BoardLaws.{length-board_of}
use Rattle.arimaa_model.specs.Frozen.{beats, passes_at}
use Rattle.arimaa_model.specs.Moves.{target, is_free, fits, after, enters, may_pull}
use Rattle.arimaa_model.proofs.Lemmas.Pushers.{after_settled, held_piece, on_board}

step_into : (x : Bool) (k n : ℕ) → enters n (cond x (Some k) None) ≡ true → (x ≡ true) × (k ≡ n)
step_into true k n h = (refl, eqb-true k n h)
step_into false k n h = absurd (true≢false (sym h))

first : (a b c d : Bool) → a ≡ true → (a || (b || (c || (d || false)))) ≡ true
first a b c d h = or_left a (b || (c || (d || false))) h

second : (a b c d : Bool) → b ≡ true → (a || (b || (c || (d || false)))) ≡ true
second a b c d h = or_right a (b || (c || (d || false))) (or_left b (c || (d || false)) h)

third : (a b c d : Bool) → c ≡ true → (a || (b || (c || (d || false)))) ≡ true
third a b c d h = or_right a (b || (c || (d || false))) (or_right b (c || (d || false)) (or_left c (d || false) h))

fourth : (a b c d : Bool) → d ≡ true → (a || (b || (c || (d || false)))) ≡ true
fourth a b c d h = or_right a (b || (c || (d || false))) (or_right b (c || (d || false)) (or_right c (d || false) (or_left d false h)))

-- what enters a square stands beside it
module _ (test : Option ℕ → Bool) (n m : ℕ) (small : m < 64) (there : test (Some m) ≡ true) where
  beside_from : (d : Dir) → enters n (next_square m d) ≡ true → list_any (λ e. test (next_square n e)) directions ≡ true
  beside_from North into =
      let parts = step_into (nat_lt m 56) (m + 8) n into in
      let on : nat_le 8 n ≡ true = grind (arith, nat_tests, parts.1) in
      let back : n - 8 ≡ m = omega (arith, parts.1) in
      let here : test (next_square n South) ≡ true = rw (on, back) there in
      third (test (next_square n North)) (test (next_square n East)) (test (next_square n South)) (test (next_square n West)) here
  beside_from East into =
      let parts = step_into (nat_lt (m % 8) 7) (m + 1) n into in
      let on : nat_le 1 (n % 8) ≡ true = grind (arith, nat_tests, parts.0, parts.1) in
      let back : n - 1 ≡ m = omega (arith, parts.1) in
      let here : test (next_square n West) ≡ true = rw (on, back) there in
      fourth (test (next_square n North)) (test (next_square n East)) (test (next_square n South)) (test (next_square n West)) here
  beside_from South into =
      let parts = step_into (nat_le 8 m) (m - 8) n into in
      let on : nat_lt n 56 ≡ true = grind (arith, nat_tests, parts.0, parts.1) in
      let back : n + 8 ≡ m = grind (arith, nat_tests, parts.0, parts.1) in
      let here : test (next_square n North) ≡ true = rw (on, back) there in
      first (test (next_square n North)) (test (next_square n East)) (test (next_square n South)) (test (next_square n West)) here
  beside_from West into =
      let parts = step_into (nat_le 1 (m % 8)) (m - 1) n into in
      let on : nat_lt (n % 8) 7 ≡ true = grind (arith, nat_tests, parts.0, parts.1) in
      let back : n + 1 ≡ m = grind (arith, nat_tests, parts.0, parts.1) in
      let here : test (next_square n East) ≡ true = rw (on, back) there in
      second (test (next_square n North)) (test (next_square n East)) (test (next_square n South)) (test (next_square n West)) here

after_long : (b : Board) (t : Step) → fits b t ≡ true → length (after b t) ≡ 64
unfolding settle
after_long b t fit = sym (ap length (after_settled b t fit)) ∙ length-board_of (λ n. kept (after b t) n (at (after b t) n))

-- a piece that ends a pull stands beside the square left, and the puller beats it
pub may_pull-from : (b : Board) (t s : Step) → fits b t ≡ true → beats t.piece s.piece ≡ true → fits (after b t) s ≡ true → enters t.from (target s) ≡ true → may_pull (after b t) t ≡ true
unfolding fits
may_pull-from b t s alone weaker fit into =
    let c = after b t in
    let here : at c s.from ≡ Some s.piece = held_piece s.piece (at c s.from) (and_parts (holds s.piece (at c s.from)) (is_free c (target s)) fit).0 in
    let small : s.from < 64 = on_board c s.from s.piece (after_long b t alone) here in
    let there : passes_at c (λ q. beats t.piece q) (Some s.from) ≡ true = rw here weaker in
    beside_from (passes_at c (λ q. beats t.piece q)) t.from s.from small there s.dir into
