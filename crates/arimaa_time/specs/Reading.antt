-- How a text is read, step by step: what the functions of the reader answer. `proofs/` shows that
-- this is the grammar.
use Rattle.std.specs.Prelude.{ℕ, Bool, not, ◌+◌, ◌*◌, ◌==◌, ◌&&◌, List, [], ◌∷◌, length, Option, Some, None, option_map, Result, Ok, Err, nat_lt, nat_le, slice_get, if◌then◌else◌}
use Rattle.std.specs.Option.{ok_or, option_or, option_and_then}
use Rattle.std.specs.Char.{is_ascii_digit}
use Rattle.std.specs.List.{list_all, position_or_len, before_first, after_first}
use Rattle.std.specs.Str.Parse.{digits_value}
use Rattle.arimaa_time.specs.declared.units.TimeUnit.{TimeUnit}
use Rattle.arimaa_time.specs.declared.control.Control.{Control}
use Rattle.arimaa_time.specs.declared.control.GameLimit.{GameLimit}
use Rattle.arimaa_time.specs.declared.control.GameLimit.TheVariants as limits
use Rattle.arimaa_time.specs.declared.fault.ControlFault.{ControlFault}
use Rattle.arimaa_time.specs.declared.fault.ControlFault.TheVariants.{Field}
use Rattle.arimaa_time.specs.TimeUnit.{letter_of, milliseconds_of, units_of_time, units_of_game}
use Rattle.arimaa_time.specs.Grammar.{turns_limit, time_limit}

-- the texts before and after the first such byte, where there is one
unfoldable pub cut_of : ℕ → List ℕ → Option (List ℕ × List ℕ)
cut_of byte text =
    if nat_lt (position_or_len (λ b. b == byte) text) (length text)
    then Some (before_first (λ b. b == byte) text, after_first (λ b. b == byte) text) else None

-- whether a text is one to six digits
unfoldable pub is_number : List ℕ → Bool
is_number text = not (length text == 0) && nat_le (length text) 6 && list_all is_ascii_digit text

-- a number of one to six digits
unfoldable pub number_of : List ℕ → Option ℕ
number_of text = if is_number text then Some (digits_value 10 text) else None

-- a number and the text behind its letter, or 0 and the whole text where it does not begin so
abbrev pub part_or_whole : List ℕ → List ℕ → Option ℕ → ℕ × List ℕ
part_or_whole text rest None = (0, text)
part_or_whole text rest (Some n) = (n, rest)

-- the number of a part and what follows it, by the two halves round its unit, or no part at all
abbrev pub part_at : List ℕ → Option (List ℕ × List ℕ) → ℕ × List ℕ
part_at text None = (0, text)
part_at text (Some halves) = part_or_whole text halves.1 (number_of halves.0)

-- the number before this unit, 0 where it does not stand first, and what follows
unfoldable pub part_of : ℕ → List ℕ → ℕ × List ℕ
part_of letter text = part_at text (cut_of letter text)

-- the milliseconds of parts in these units
abbrev pub parts_of : List TimeUnit → List ℕ → Option ℕ
parts_of [] text = if length text == 0 then Some 0 else None
parts_of (unit ∷ units) text =
    option_map (λ more. (part_of (letter_of unit) text).0 * milliseconds_of unit + more)
    (parts_of units (part_of (letter_of unit) text).1)

-- the sixtieths of a clock's reading
unfoldable pub clock_of : List ℕ → Option ℕ
clock_of text =
    option_and_then (λ halves. option_and_then (λ whole. option_and_then (λ part.
    if length halves.1 == 2 && nat_lt part 60 then Some (60 * whole + part) else None)
    (number_of halves.1)) (number_of halves.0)) (cut_of 58 text)

-- a length of time, by the first form that fits
unfoldable pub span_of : ℕ → List TimeUnit → List ℕ → Option ℕ
span_of sixtieth units text =
    option_or (option_map (λ n. n * (60 * sixtieth)) (number_of text))
    (option_or (option_map (λ n. n * sixtieth) (clock_of text))
    (if length text == 0 then None else parts_of units text))

-- the milliseconds of a time, whose bare number counts minutes
abbrev pub time_of : List ℕ → Option ℕ
time_of text = span_of 1000 units_of_time text

-- the number of a percentage, from 0 to 100
unfoldable pub percent_of : List ℕ → Option ℕ
percent_of text = option_and_then (λ n. if nat_le n 100 then Some n else None) (number_of text)

-- the number of a text that is a number and this letter
unfoldable pub marked_of : ℕ → List ℕ → Option ℕ
marked_of letter text =
    option_and_then (λ halves. if length halves.1 == 0 then number_of halves.0 else None)
    (cut_of letter text)

-- the limit of a game: a number of turns, or a time whose bare number counts hours
unfoldable pub game_of : List ℕ → Option GameLimit
game_of text = option_or (option_map turns_limit (marked_of 116 text))
    (option_map time_limit (span_of 60000 units_of_game text))

infixl 10 ◌>>=◌
-- what the next step makes of a value, or the fault that came first
abbrev pub ◌>>=◌ : {A B : Type 0} → Result A ControlFault → (A → Result B ControlFault)
    → Result B ControlFault
(Ok x) >>= f = f x
(Err e) >>= f = Err e

-- the value of a field, the usual one where it is left off, or the fault that names it
abbrev pub field_of : {V : Type 0} → (List ℕ → Option V) → V → ℕ → Option (List ℕ)
    → Result V ControlFault
field_of read usual k None = Ok usual
field_of read usual k (Some text) = ok_or (read text) (Field k)

-- the control that fields write, or the first fault
unfoldable pub control_of : List (List ℕ) → Result Control ControlFault
control_of texts = do
  turn ← field_of time_of 0 1 (slice_get texts 0)
  reserve ← field_of time_of 0 2 (slice_get texts 1)
  percent ← field_of percent_of 100 3 (slice_get texts 2)
  cap ← field_of time_of 0 4 (slice_get texts 3)
  game ← field_of game_of limits.None 5 (slice_get texts 4)
  limit ← field_of time_of 0 6 (slice_get texts 5)
  if nat_lt 6 (length texts) then Err (Field 7) else Ok
      (record {
        turn = turn;
        reserve = reserve;
        percent = percent;
        cap = cap;
        game = game;
        limit = limit;
      })
