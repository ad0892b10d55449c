-- How a number begins in words and records.
use Rattle.std.specs.Prelude.{◌≡◌, ◌≢◌, ℕ, ◌<◌, List, length, slice_index}

-- there is a first byte, and it is no plus sign, and no zero before others
pub record HasPlainStart (bytes : List ℕ) : Type 0 where
  pub some : 0 < length bytes
  pub unsigned : slice_index bytes 0 ≢ 43
  pub no_zero : slice_index bytes 0 ≡ 48 → length bytes ≡ 1
