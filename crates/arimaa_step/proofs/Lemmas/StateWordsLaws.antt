-- A state comes back from its words.
use Rattle.std.proofs.Common.{◌≡◌, ℕ, ◌+◌, ◌-◌, ◌*◌, ◌/◌, ◌%◌, ◌<◌, ◌≤◌, List, [], ◌∷◌, Bool, true, false, length, Option, None, Some, refl, ◌∙◌, ap, arith, ne_eqb}
use Rattle.std.specs.Prelude.{◌==◌, ◌&&◌}
use Rattle.std.proofs.lemmas.Bool.{and_parts}
use Rattle.arimaa_board.specs.declared.piece.Piece.{Piece}
use Rattle.arimaa_board.specs.declared.board.Board.{Board}
use Rattle.arimaa_board.specs.Piece.{code_of, piece_of_code}
use Rattle.arimaa_board.specs.Board.{at, holds}
use Rattle.arimaa_board.specs.CodeLaws.{piece_of_code-code_of_content}
use Rattle.arimaa_board.proofs.Lemmas.Unpacking.{code_small, squares_of-words_of}
use Rattle.arimaa_board.specs.declared.position.Position.{Position}
use Rattle.arimaa_board.specs.declared.position.Step.{Step}
use Rattle.arimaa_model.specs.Moves.{target, fits, after, is_free, is_single, is_half, may_pull}
use Rattle.arimaa_model.specs.Backward.{after_back, cuts_back, opens_back}
use Rattle.arimaa_model.proofs.Lemmas.Growing.{single_fits, half_fits}
use Rattle.arimaa_step.specs.declared.state.TurnState.{TurnState}
use Rattle.arimaa_step.specs.State.{left_if, open_of, pull_of, state_of}
use Rattle.arimaa_step.specs.StateWords.{left_code, left_from, facts_of, bit_of, state_words, state_planes, state_with, state_from, state_in_planes}
use Rattle.arimaa_board.proofs.Lemmas.PlanesBack.{squares_of_planes_of}
use Rattle.arimaa_board.proofs.Lemmas.Friends.{is_one}
use Rattle.arimaa_model.proofs.Lemmas.Pushers.{held_piece, on_board}
use Rattle.arimaa_model.proofs.Lemmas.Listed.{length-after}

-- a square of the board, if there is one
abbrev OnBoard : Option (ℕ × Piece) → Type 0
OnBoard None = Unit {0}
OnBoard (Some l) = l.0 < 64

left_small : (o : Option (ℕ × Piece)) → OnBoard o → left_code o < 1024
unfolding left_code
left_small None h = omega arith
left_small (Some l) h = omega (arith, code_small l.1)

left_back : (o : Option (ℕ × Piece)) → OnBoard o → left_from (left_code o) ≡ o
unfolding left_code left_from
left_back None h = refl
left_back (Some l) h =
    let n : ℕ = 1 + l.0 + 64 * code_of l.1 in
    let more : (1 + l.0 + 64 * code_of l.1 == 0) ≡ false = ne_eqb (1 + l.0 + 64 * code_of l.1) 0 (omega arith) in
    let square : (1 + l.0 + 64 * code_of l.1 - 1) % 64 ≡ l.0 = omega arith in
    let piece : (1 + l.0 + 64 * code_of l.1 - 1) / 64 ≡ code_of l.1 = omega arith in
    let known : piece_of_code (code_of l.1) ≡ Some l.1 = piece_of_code-code_of_content (Some l.1) in
    rw (more, square, piece, known) refl

bit_small : (b : Bool) → bit_of b ≤ 1
bit_small true = omega arith
bit_small false = omega arith

-- four numbers in one
module _ (n c a d : ℕ) (n_small : n < 8) (c_small : c ≤ 1) (a_small : a < 1024) (d_small : d < 1024) where
  part0 : (n + 8 * c + 16 * a + 16384 * d) % 8 ≡ n
  part0 = omega arith

  part1 : (n + 8 * c + 16 * a + 16384 * d) / 8 % 2 ≡ c
  part1 = omega arith

  part2 : (n + 8 * c + 16 * a + 16384 * d) / 16 % 1024 ≡ a
  part2 = omega arith

  part3 : (n + 8 * c + 16 * a + 16384 * d) / 16384 % 1024 ≡ d
  part3 = omega arith

facts_back : (st : TurnState) → st.count < 8 → OnBoard st.open_push → OnBoard st.open_pull → state_with st.start st.board (facts_of st) ≡ st
unfolding state_with facts_of
facts_back st few push pull =
    let n = st.count in
    let c = bit_of st.cut in
    let a = left_code st.open_push in
    let d = left_code st.open_pull in
    let c_small = bit_small st.cut in
    let a_small = left_small st.open_push push in
    let d_small = left_small st.open_pull pull in
    λ i. record {
      start = st.start;
      board = st.board;
      count = part0 n c a d few c_small a_small d_small i;
      cut = (ap (λ v. v == 1) (part1 n c a d few c_small a_small d_small) ∙ is_one st.cut) i;
      open_push = (ap left_from (part2 n c a d few c_small a_small d_small) ∙ left_back st.open_push push) i;
      open_pull = (ap left_from (part3 n c a d few c_small a_small d_small) ∙ left_back st.open_pull pull) i;
    }

after_back_long : (b : Board) (back : List Step) → length b ≡ 64 → length (after_back b back) ≡ 64
after_back_long b [] long = long
after_back_long b (s ∷ before) long = length-after (after_back b before) s (after_back_long b before long)

fits_on_board : (b : Board) (s : Step) → length b ≡ 64 → fits b s ≡ true → s.from < 64
unfolding fits
fits_on_board b s long h = on_board b s.from s.piece long (held_piece s.piece (at b s.from) (and_parts (holds s.piece (at b s.from)) (is_free b (target s)) h).0)

left_on_board : (v : Bool) (s : Step) → (v ≡ true → s.from < 64) → OnBoard (left_if v s)
left_on_board true s h = h refl
left_on_board false s h = tt

open_on_board : (p : Position) (back : List Step) → length p.board ≡ 64 → OnBoard (open_of p.board p.side back)
open_on_board p [] long = tt
open_on_board p (t ∷ before) long =
    left_on_board (opens_back p.board p.side (t ∷ before)) t
    (λ h. fits_on_board (after_back p.board before) t (after_back_long p.board before long) (half_fits (after_back p.board before) p.side t (and_parts (cuts_back p.board p.side before) (is_half (after_back p.board before) p.side t) h).1))

pull_on_board : (p : Position) (back : List Step) → length p.board ≡ 64 → OnBoard (pull_of p.board p.side back)
pull_on_board p [] long = tt
pull_on_board p (t ∷ before) long =
    let here = after_back p.board before in
    let alone = is_single here p.side t in
    let whole = cuts_back p.board p.side before && alone in
    left_on_board (whole && may_pull (after here t) t) t
    (λ h. fits_on_board here t (after_back_long p.board before long) (single_fits here p.side t (and_parts (cuts_back p.board p.side before) alone (and_parts whole (may_pull (after here t) t) h).0).1))

-- the state that stands for at most four steps comes back from its facts
state_facts : (p : Position) (back : List Step) → length p.board ≡ 64 → length back ≤ 4 → state_with p (after_back p.board back) (facts_of (state_of p back)) ≡ state_of p back
state_facts p back long few = facts_back (state_of p back) (omega arith) (open_on_board p back long) (pull_on_board p back long)

-- it comes back from its words
pub state_back : (p : Position) (back : List Step) → length p.board ≡ 64 → length back ≤ 4 → state_from p (state_words (state_of p back)) ≡ state_of p back
state_back p back long few =
    ap (λ b. state_with p b (facts_of (state_of p back))) (squares_of-words_of (after_back p.board back) (after_back_long p.board back long)) ∙ state_facts p back long few

-- and from its planes
pub state_back_planes : (p : Position) (back : List Step) → length p.board ≡ 64 → length back ≤ 4 → state_in_planes p (state_planes (state_of p back)) ≡ state_of p back
state_back_planes p back long few =
    ap (λ b. state_with p b (facts_of (state_of p back))) (squares_of_planes_of (after_back p.board back) (after_back_long p.board back long)) ∙ state_facts p back long few
