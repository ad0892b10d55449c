-- The planes of a board hold that board.
use Rattle.std.proofs.Common.{◌≡◌, ℕ, zero, suc, ◌+◌, ◌-◌, ◌*◌, ◌^◌, ◌<◌, ◌≤◌, IsTrue, sym, ◌∙◌, ap, subst, arith, length, ⊎_elim}
use Rattle.std.specs.Int.{bit_at}
use Rattle.std.proofs.lemmas.Nat.{pow-add}
use Rattle.std.proofs.lemmas.Nat.Bits.{bit_at-lt, bit_at_cat_low, bit_at_cat_high}
use Rattle.std.proofs.lemmas.Bool.{cases_eq}
use Rattle.std.proofs.Math.Nat.{add_comm, mul-le-mul_right}
use Rattle.arimaa_board.specs.Piece.{piece_of_code}
use Rattle.arimaa_board.specs.Board.{Squares, at}
use Rattle.arimaa_board.specs.BoardLaws.{same_boards, length-board_of, at-board_of}
use Rattle.arimaa_board.specs.CodeLaws.{piece_of_code-code_of_content, is_code-code_of_content}
use Rattle.arimaa_board.specs.Words.{code_of_content, is_code}
use Rattle.arimaa_board.specs.Planes.{plane_code, ArePlanes, squares_of_planes, with_bits, code_bit, plane_of}
use Rattle.arimaa_board.proofs.Lemmas.Unpacking.{content_small}

one_more : (a c n : ℕ) → a < 2 ^ n → c < 2 → a + c * 2 ^ n < 2 ^ (n + 1)
one_more a c n h one =
    let most : c * 2 ^ n ≤ 1 * 2 ^ n = mul-le-mul_right (2 ^ n) (omega arith) in
    rw (pow-add 2 n 1) (omega (arith, most))

lowest : (x : ℕ) → x < 2 → bit_at x 0 ≡ x
lowest x one = omega arith

-- the number that bits make
module _ (f : ℕ → ℕ) (bits : (j : ℕ) → f j < 2) where
  pub with_bits-lt : (n : ℕ) → with_bits f n < 2 ^ n
  unfolding with_bits
  with_bits-lt zero = omega arith
  with_bits-lt (suc n) =
      let next : suc n ≡ n + 1 = omega arith in
      rw next (one_more (with_bits f n) (f n) n (with_bits-lt n) (bits n))

  pub bit_at-with_bits : (n j : ℕ) → j < n → bit_at (with_bits f n) j ≡ f j
  unfolding with_bits
  bit_at-with_bits zero j h = absurd (omega arith)
  bit_at-with_bits (suc n) j h =
      ap (λ x. bit_at x j) (add_comm (with_bits f n) (f n * 2 ^ n))
      ∙ ⊎_elim
      (λ (e : j ≡ n).
      let from : n ≤ j = omega arith in
      let start : j - n ≡ 0 = omega arith in
      let one : f n < 2 = bits n in
      bit_at_cat_high (f n) n (with_bits f n) j (with_bits-lt n) from ∙ (ap (bit_at (f n)) start ∙ (lowest (f n) one ∙ ap f (sym e))))
      (λ ne. let less : j < n = omega arith in bit_at_cat_low (f n) n (with_bits f n) j less ∙ bit_at-with_bits n j less)
      (cases_eq j n)

four_make : (x y z w code : ℕ) → code < 16 → x ≡ bit_at code 0 → y ≡ bit_at code 1 → z ≡ bit_at code 2 → w ≡ bit_at code 3 → x + 2 * y + 4 * z + 8 * w ≡ code
four_make x y z w code small a b c d = omega arith

module _ (b : Squares) where
  abbrev plane : ℕ → ℕ
  plane k = plane_of b k

  bits : (k j : ℕ) → code_bit b k j < 2
  bits k j = bit_at-lt (code_of_content (at b j)) k

  code_there : (n : ℕ) → n < 64 → plane_code (plane 0) (plane 1) (plane 2) (plane 3) n ≡ code_of_content (at b n)
  code_there n small =
      four_make _ _ _ _ (code_of_content (at b n)) (content_small (at b n))
      (bit_at-with_bits (code_bit b 0) (bits 0) 64 n small) (bit_at-with_bits (code_bit b 1) (bits 1) 64 n small)
      (bit_at-with_bits (code_bit b 2) (bits 2) 64 n small) (bit_at-with_bits (code_bit b 3) (bits 3) 64 n small)

  pub planes_of-valid : ArePlanes (plane 0) (plane 1) (plane 2) (plane 3)
  planes_of-valid = record {
    fits_a = with_bits-lt (code_bit b 0) (bits 0) 64;
    fits_b = with_bits-lt (code_bit b 1) (bits 1) 64;
    fits_c = with_bits-lt (code_bit b 2) (bits 2) 64;
    fits_s = with_bits-lt (code_bit b 3) (bits 3) 64;
    codes = λ n small. subst (λ c. IsTrue (is_code c)) (sym (code_there n small)) (is_code-code_of_content (at b n));
  }

  pub squares_of_planes_of : length b ≡ 64 → squares_of_planes (plane 0) (plane 1) (plane 2) (plane 3) ≡ b
  squares_of_planes_of long =
      same_boards _ b (length-board_of _) long
      (λ n small. at-board_of (λ x. piece_of_code (plane_code (plane 0) (plane 1) (plane 2) (plane 3) x)) n small ∙ (ap piece_of_code (code_there n small) ∙ piece_of_code-code_of_content (at b n)))
