-- The units that a part of a time is written in.
use Rattle.std.specs.Prelude.{ℕ, List, [], ◌∷◌}
use Rattle.arimaa_time.specs.declared.units.TimeUnit.{TimeUnit}
use Rattle.arimaa_time.specs.declared.units.TimeUnit.TheVariants.{Day, Hour, Minute, Second}

-- the letter behind a number of a unit: d, h, m, s
abbrev pub letter_of : TimeUnit → ℕ
letter_of Day = 100
letter_of Hour = 104
letter_of Minute = 109
letter_of Second = 115

-- how many milliseconds a unit has
abbrev pub milliseconds_of : TimeUnit → ℕ
milliseconds_of Day = 86400000
milliseconds_of Hour = 3600000
milliseconds_of Minute = 60000
milliseconds_of Second = 1000

-- the units of a time, in the order in which they are written
abbrev pub units_of_time : List TimeUnit
units_of_time = Day ∷ Hour ∷ Minute ∷ Second ∷ []

-- the units of a game limit, likewise
abbrev pub units_of_game : List TimeUnit
units_of_game = Day ∷ Hour ∷ Minute ∷ []
