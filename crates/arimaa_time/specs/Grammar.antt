-- What a field of a time control's text may be, and the value that it stands for. Times are in
-- milliseconds.
use Rattle.std.specs.Prelude.{◌≡◌, ℕ, ◌+◌, ◌*◌, ◌<◌, ◌≤◌, ◌==◌, ◌⊎◌, List, [], ◌∷◌, ◌++◌, length, if◌then◌else◌}
use Rattle.std.specs.Str.Parse.{AllDigits, digits_value}
use Rattle.arimaa_time.specs.declared.units.TimeUnit.{TimeUnit}
use Rattle.arimaa_time.specs.declared.control.GameLimit.{GameLimit}
use Rattle.arimaa_time.specs.declared.control.GameLimit.TheVariants as limits
use Rattle.arimaa_time.specs.TimeUnit.{letter_of, milliseconds_of, units_of_time, units_of_game}

-- one to six decimal digits; zeros may stand in front
pub record IsNumber (text : List ℕ) (n : ℕ) : Type 0 where
  pub some : 0 < length text
  pub short : length text ≤ 6
  pub digits : AllDigits 10 text
  pub value : n ≡ digits_value 10 text

-- a number and this letter
pub record IsMarked (letter : ℕ) (text : List ℕ) (n : ℕ) : Type 0 where
  pub front : List ℕ
  pub number : IsNumber front n
  pub text_is : text ≡ front ++ letter ∷ []

-- a part of a time: a number and the letter of its unit, or nothing, which counts 0
abbrev pub IsPart : ℕ → List ℕ → ℕ → Type 0
IsPart letter text n = ((text ≡ []) × (n ≡ 0)) ⊎ IsMarked letter text n

-- a part in the first unit, and then parts in the others
pub record IsSequence (unit : TimeUnit) (Others : List ℕ → ℕ → Type 0) (text : List ℕ)
    (ms : ℕ) : Type 0 where
  pub front : List ℕ
  pub rest : List ℕ
  pub count : ℕ
  pub more : ℕ
  pub first : IsPart (letter_of unit) front count
  pub others : Others rest more
  pub text_is : text ≡ front ++ rest
  pub total : ms ≡ count * milliseconds_of unit + more

-- parts in these units, in this order, each unit at most once
abbrev pub AreParts : List TimeUnit → List ℕ → ℕ → Type 0
AreParts [] text ms = (text ≡ []) × (ms ≡ 0)
AreParts (unit ∷ units) text ms = IsSequence unit (AreParts units) text ms

-- `12:30`: a number, and two digits from 00 to 59 that count sixtieths
pub record IsClock (text : List ℕ) (sixtieths : ℕ) : Type 0 where
  pub whole_text : List ℕ
  pub part_text : List ℕ
  pub whole : ℕ
  pub part : ℕ
  pub whole_is : IsNumber whole_text whole
  pub part_is : IsNumber part_text part
  pub two_digits : length part_text ≡ 2
  pub below_sixty : part < 60
  pub text_is : text ≡ whole_text ++ 58 ∷ part_text
  pub total : sixtieths ≡ 60 * whole + part

-- a length of time in one of its three forms: a number, a clock's reading, or one part or more. The
-- sixtieth of what a bare number counts is given
pub data IsSpan (sixtieth : ℕ) (units : List TimeUnit) (text : List ℕ) (ms : ℕ) : Type 0 where
  bare : (n : ℕ) → IsNumber text n → ms ≡ n * (60 * sixtieth) → IsSpan sixtieth units text ms
  clock : (n : ℕ) → IsClock text n → ms ≡ n * sixtieth → IsSpan sixtieth units text ms
  parts : 0 < length text → AreParts units text ms → IsSpan sixtieth units text ms

-- a time: minutes, minutes and seconds, or parts of days, hours, minutes and seconds
abbrev pub IsTime : List ℕ → ℕ → Type 0
IsTime text ms = IsSpan 1000 units_of_time text ms

-- a percentage
abbrev pub IsPercent : List ℕ → ℕ → Type 0
IsPercent text n = IsNumber text n × (n ≤ 100)

-- no turns and no time stand for no limit
abbrev pub turns_limit : ℕ → GameLimit
turns_limit n = if n == 0 then limits.None else limits.Turns n

-- the game limit of so many milliseconds, none of which is no limit
abbrev pub time_limit : ℕ → GameLimit
time_limit ms = if ms == 0 then limits.None else limits.Time ms

-- a game limit: a number of turns; or hours, hours and minutes, or parts of days, hours and minutes
pub data IsGame (text : List ℕ) (limit : GameLimit) : Type 0 where
  turns : (n : ℕ) → IsMarked 116 text n → limit ≡ turns_limit n → IsGame text limit
  time : (ms : ℕ) → IsSpan 60000 units_of_game text ms → limit ≡ time_limit ms → IsGame text limit
