-- The bits of four planes, brought together as words of codes.
use Rattle.std.proofs.Common.{◌≡◌, ℕ, ◌+◌, ◌*◌, ◌/◌, ◌%◌, ◌^◌, ◌<◌, List, [], ◌∷◌, length, get_or, refl, sym, ◌∙◌, arith}
use Rattle.std.specs.Int.{bit_at}
use Rattle.std.proofs.lemmas.Nat.{shr-shr}
use Rattle.std.proofs.Math.Nat.{mod-eq_of_lt}
use Rattle.arimaa_board.specs.Board.{at}
use Rattle.arimaa_board.specs.Words.{code_in, code_of_content, word_of, words_of}
use Rattle.arimaa_board.specs.WordsLaws.{packed_agree, packed-code_in, four_cells}
use Rattle.arimaa_board.specs.Planes.{ArePlanes, squares_of_planes}
use Rattle.arimaa_board.specs.PlanesLaws.{code_of_planes}

four_parts : (x : ℕ) → x % 2 ^ 4 ≡ x % 2 + 2 * (x / 2 ^ 1 % 2) + 4 * (x / 2 ^ 2 % 2) + 8 * (x / 2 ^ 3 % 2)
four_parts x = omega arith

-- a code by its bits
code_bits : (word n : ℕ) → code_in word n ≡ bit_at word (4 * n) + 2 * bit_at word (4 * n + 1) + 4 * bit_at word (4 * n + 2) + 8 * bit_at word (4 * n + 3)
code_bits word n =
    rw (← shr-shr word (4 * n) 1, ← shr-shr word (4 * n) 2, ← shr-shr word (4 * n) 3) (four_parts (word / 2 ^ (4 * n)))

module _ (a b c s : ℕ) (h : ArePlanes a b c s) where
  abbrev planes : List ℕ
  planes = a ∷ b ∷ c ∷ s ∷ []

  module _ (words : List ℕ) (four : length words ≡ 4) (fit : (k : ℕ) → k < 4 → get_or words k 0 < 2 ^ 64)
      (moved : (k i : ℕ) → k < 4 → i < 64 → bit_at (get_or words k 0) i ≡ bit_at (get_or planes (i % 4) 0) (16 * k + i / 4)) where
    code_here : (k n : ℕ) → k < 4 → n < 16 → code_in (get_or words k 0) n ≡ code_of_content (at (squares_of_planes a b c s) (16 * k + n))
    code_here k n word small =
        let square : 16 * k + n < 64 = omega arith in
        let first : bit_at (get_or words k 0) (4 * n) ≡ bit_at a (16 * k + n) = bit_here 0 (4 * n) (omega arith) (omega arith) in
        let second : bit_at (get_or words k 0) (4 * n + 1) ≡ bit_at b (16 * k + n) = bit_here 1 (4 * n + 1) (omega arith) (omega arith) in
        let third : bit_at (get_or words k 0) (4 * n + 2) ≡ bit_at c (16 * k + n) = bit_here 2 (4 * n + 2) (omega arith) (omega arith) in
        let fourth : bit_at (get_or words k 0) (4 * n + 3) ≡ bit_at s (16 * k + n) = bit_here 3 (4 * n + 3) (omega arith) (omega arith) in
        code_bits (get_or words k 0) n ∙ (rw (first, second, third, fourth) (sym (code_of_planes a b c s h (16 * k + n) square)))
      where
        bit_here : (p i : ℕ) → i ≡ 4 * n + p → p < 4 → bit_at (get_or words k 0) i ≡ bit_at (get_or planes p 0) (16 * k + n)
        bit_here p i e low =
            let plane : i % 4 ≡ p = omega arith in
            let place : i / 4 ≡ n = omega arith in
            moved k i word (omega arith) ∙ rw (plane, place) refl

    word_here : (k : ℕ) → k < 4 → get_or words k 0 ≡ word_of (squares_of_planes a b c s) k
    unfolding word_of
    word_here k small =
        sym (packed-code_in (get_or words k 0) 16 ∙ mod-eq_of_lt (fit k small))
        ∙ packed_agree _ _ 16 (λ n in_word. code_here k n small in_word)

    pub words_here : words ≡ words_of (squares_of_planes a b c s)
    words_here =
        rw (← word_here 0 (omega arith), ← word_here 1 (omega arith), ← word_here 2 (omega arith), ← word_here 3 (omega arith)) (sym (four_cells words four))
