-- Where the bits of words that are transposed come from.
use Rattle.std.specs.Prelude.{ℕ, ◌+◌, ◌-◌, ◌*◌, ◌/◌, ◌%◌, ◌^◌, ◌==◌, nat_lt, List, slice_index, if◌then◌else◌}
use Rattle.std.specs.Int.{bit_at}

-- bit n of some words, counted through from the first word
abbrev pub bit_in : List ℕ → ℕ → ℕ
bit_in words n = bit_at (slice_index words (n / 64)) (n % 64)

-- the place in the low word of a pair from which a swap of its bits under a mask takes bit n
abbrev pub low_source : ℕ → ℕ → ℕ → ℕ
low_source shift mask n =
    if bit_at (mask * 2 ^ shift % 2 ^ 64) n == 1 then 64 + (n - shift) else n

-- the same of bit n of the high word
abbrev pub high_source : ℕ → ℕ → ℕ → ℕ
high_source shift mask n = if bit_at mask n == 1 then n + shift else 64 + n

-- the same of bit n of both words, counted through
abbrev pub swap_source : ℕ → ℕ → ℕ → ℕ
swap_source shift mask n =
    if nat_lt n 64 then low_source shift mask n else high_source shift mask (n - 64)

-- the number in which bits p and q are exchanged
abbrev pub with_bits_exchanged : ℕ → ℕ → ℕ → ℕ
with_bits_exchanged p q n =
    n - bit_at n p * 2 ^ p - bit_at n q * 2 ^ q + bit_at n p * 2 ^ q + bit_at n q * 2 ^ p
