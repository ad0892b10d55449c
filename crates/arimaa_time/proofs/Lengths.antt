-- How long the parts of a written control are.
use Rattle.std.proofs.Common.{ℕ, ◌+◌, ◌/◌, ◌%◌, ◌^◌, ◌<◌, ◌≤◌, ◌∷◌, length, arith, lit<, length-append}
use Rattle.std.specs.Fmt.{decimal}
use Rattle.std.proofs.lemmas.Fmt.{length-decimal-le}
use Rattle.arimaa_time.specs.Writing.{two_digits, clock_text}

pub length_clock : (sixtieth ms k : ℕ) → 0 < k → ms / sixtieth / 60 < 10 ^ k → ms / sixtieth / 60 < 2 ^ 64 → length (clock_text sixtieth ms) ≤ k + 3
unfolding clock_text
length_clock sixtieth ms k some small fits =
    omega (arith, length-append (decimal (ms / sixtieth / 60)) (58 ∷ two_digits (ms / sixtieth % 60)), length-decimal-le k (ms / sixtieth / 60) some small fits)

-- minutes and seconds
pub length_time : (ms : ℕ) → ms < 2 ^ 64 → length (clock_text 1000 ms) ≤ 18
length_time ms fits = length_clock 1000 ms 15 (lit< tt) (omega (arith, fits)) (omega (arith, fits))

-- hours and minutes
pub length_hours : (ms : ℕ) → ms < 2 ^ 64 → length (clock_text 60000 ms) ≤ 16
length_hours ms fits = length_clock 60000 ms 13 (lit< tt) (omega (arith, fits)) (omega (arith, fits))

pub length_percent : (n : ℕ) → n < 2 ^ 8 → length (decimal n) ≤ 3
length_percent n fits = length-decimal-le 3 n (lit< tt) (omega (arith, fits)) (omega (arith, fits))

pub length_turns : (n : ℕ) → n < 2 ^ 32 → length (decimal n) ≤ 10
length_turns n fits = length-decimal-le 10 n (lit< tt) (omega (arith, fits)) (omega (arith, fits))
