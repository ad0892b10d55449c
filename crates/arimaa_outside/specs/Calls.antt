-- The calls of an object in memory.
use Rattle.std.specs.Prelude.{ℕ, ◌+◌, ◌-◌, ◌^◌, Contains, List, min}

-- the numbers of the calls that fail, from 1, and how many were made and failed so far
pub record Tally : Type 0 where
  pub fails : List ℕ
  pub made : ℕ
  pub faults : ℕ

-- the next call is one that fails
abbrev pub NextFails : Tally → Type 0
NextFails calls = Contains calls.fails (calls.made + 1)

-- one call more was made; the count ends at the last number of 64 bits, which no list of them goes
-- beyond
abbrev pub after_success : Tally → Tally
after_success calls = record calls { made = min (calls.made + 1) (2 ^ 64 - 1) }

-- one call more was made, and has failed
abbrev pub after_fault : Tally → Tally
after_fault calls = record calls
    { made = min (calls.made + 1) (2 ^ 64 - 1); faults = min (calls.faults + 1) (2 ^ 64 - 1) }
