-- How a time control changes a reserve of time, in milliseconds.
use Rattle.std.specs.Prelude.{ℕ, ◌+◌, ◌-◌, ◌*◌, ◌/◌, ◌^◌, ◌==◌, min, max, nat_le, if◌then◌else◌}
use Rattle.arimaa_time.specs.declared.control.Control.{Control}

-- what the unused time of a turn adds: the percentage of it, rounded down
abbrev pub gain_of : Control → ℕ → ℕ
gain_of c used = (c.turn - used) * c.percent / 100

-- where the growth of a reserve ends: at the cap where there is one, and at 2 ^ 60 in any case
abbrev pub ceiling_of : Control → ℕ
ceiling_of c = if c.cap == 0 then 2 ^ 60 else min c.cap (2 ^ 60)

-- a reserve that has grown: up to the ceiling, and one that stands above the ceiling already stays
abbrev pub grown_reserve : Control → ℕ → ℕ → ℕ
grown_reserve c reserve used = max reserve (min (reserve + gain_of c used) (ceiling_of c))

-- the reserve after a turn in time: it pays for what goes beyond the turn's own time, or it grows
abbrev pub reserve_after : Control → ℕ → ℕ → ℕ
reserve_after c reserve used = if nat_le c.turn used then reserve -
    (used - c.turn) else grown_reserve c reserve used
