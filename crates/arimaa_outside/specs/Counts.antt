-- What a port or a spawner counts.
use Rattle.std.specs.Prelude.{ℕ, ◌+◌, ◌-◌, ◌^◌, ◌≤◌, min}

-- how many calls failed, how often a line was none or too long, and how many lines were heard
pub record Counts : Type 0 where
  pub faults : ℕ
  pub stops : ℕ
  pub lines : ℕ

-- Nothing is counted yet.
abbrev pub no_counts : Counts
no_counts = record { faults = 0; stops = 0; lines = 0 }

-- A sum as a counter of 64 bits keeps it: it ends at its last number.
abbrev pub capped_sum : ℕ → ℕ → ℕ
capped_sum a b = min (a + b) (2 ^ 64 - 1)

-- Both counts together.
abbrev pub sum_of_counts : Counts → Counts → Counts
sum_of_counts some more = record {
  faults = capped_sum some.faults more.faults;
  stops = capped_sum some.stops more.stops;
  lines = capped_sum some.lines more.lines;
}

-- No count falls.
pub record NeverFall (before now : Counts) : Type 0 where
  pub faults : before.faults ≤ now.faults
  pub stops : before.stops ≤ now.stops
  pub lines : before.lines ≤ now.lines
