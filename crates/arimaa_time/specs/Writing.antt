-- The written form of a time control, and what of it is read back.
use Rattle.std.specs.Prelude.{◌≡◌, ℕ, ◌+◌, ◌/◌, ◌%◌, ◌^◌, ◌<◌, ◌≤◌, List, [], ◌∷◌, ◌++◌}
use Rattle.std.specs.List.{join_with_byte}
use Rattle.std.specs.Fmt.{decimal}
use Rattle.arimaa_time.specs.declared.control.Control.{Control}
use Rattle.arimaa_time.specs.declared.control.GameLimit.{GameLimit}
use Rattle.arimaa_time.specs.declared.control.GameLimit.TheVariants as limits

-- two digits
abbrev pub two_digits : ℕ → List ℕ
two_digits n = (48 + n / 10) ∷ (48 + n % 10) ∷ []

-- a time as on a clock, `m:ss` or `h:mm`, where a sixtieth of the large unit has so many
-- milliseconds. The large unit has no leading zeros, and what is below a sixtieth is dropped
unfoldable pub clock_text : ℕ → ℕ → List ℕ
clock_text sixtieth ms = decimal (ms / sixtieth / 60) ++ 58 ∷ two_digits (ms / sixtieth % 60)

-- a game limit: `0:00` for none, a time in hours and minutes, or a number of turns and `t`
unfoldable pub game_text : GameLimit → List ℕ
game_text limits.None = clock_text 60000 0
game_text (limits.Time ms) = clock_text 60000 ms
game_text (limits.Turns n) = decimal n ++ 116 ∷ []

-- the six fields
abbrev pub texts_of : Control → List (List ℕ)
texts_of c =
    clock_text 1000 c.turn ∷ clock_text 1000 c.reserve ∷ decimal c.percent
    ∷ clock_text 1000 c.cap ∷ game_text c.game ∷ clock_text 1000 c.limit ∷ []

-- the written control: its fields, with slashes between
abbrev pub text_of : Control → List ℕ
text_of c = join_with_byte 47 (texts_of c)

-- a time of whole sixtieths whose large unit is a number of at most six digits
pub record IsWhole (sixtieth ms : ℕ) : Type 0 where
  pub nothing_dropped : ms % sixtieth ≡ 0
  pub six_digits : ms / sixtieth / 60 < 10 ^ 6

-- a game limit that its text says whole
abbrev pub IsWholeGame : GameLimit → Type 0
IsWholeGame limits.None = Unit {0}
IsWholeGame (limits.Time ms) = (0 < ms) × IsWhole 60000 ms
IsWholeGame (limits.Turns n) = (0 < n) × (n < 10 ^ 6)

-- a control that its text says whole
pub record IsWholeControl (c : Control) : Type 0 where
  pub turn : IsWhole 1000 c.turn
  pub reserve : IsWhole 1000 c.reserve
  pub percent : c.percent ≤ 100
  pub cap : IsWhole 1000 c.cap
  pub game : IsWholeGame c.game
  pub limit : IsWhole 1000 c.limit
