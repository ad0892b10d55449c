-- The fields of a time control's text: the control that they write, and the first that is bad.
use Rattle.std.specs.Prelude.{◌≡◌, ◌≢◌, ℕ, ◌-◌, ◌<◌, ◌≤◌, ◌==◌, List, [], length, Option, Some, None, IsSomeAnd, slice_get}
use Rattle.std.specs.List.{slice_split}
use Rattle.arimaa_time.specs.declared.control.Control.{Control}
use Rattle.arimaa_time.specs.declared.control.GameLimit.{GameLimit}
use Rattle.arimaa_time.specs.declared.control.GameLimit.TheVariants as limits
use Rattle.arimaa_time.specs.declared.fault.ControlFault.{ControlFault}
use Rattle.arimaa_time.specs.declared.fault.ControlFault.TheVariants.{Field}
use Rattle.arimaa_time.specs.Grammar.{IsTime, IsPercent, IsGame}

-- what stands between the slashes of a text
abbrev pub fields : List ℕ → List (List ℕ)
fields text = slice_split (λ b. b == 47) text

-- the fields of what is left of a text, if anything is
abbrev pub fields_left : Option (List ℕ) → List (List ℕ)
fields_left None = []
fields_left (Some text) = fields text

-- a field, counted from 1, where it stands
abbrev pub field : List (List ℕ) → ℕ → Option (List ℕ)
field texts k = slice_get texts (k - 1)

-- a field has this value; where it is left off, the value is the usual one
abbrev pub Gives : {V : Type 0} → Option (List ℕ) → (List ℕ → V → Type 0) → V → V → Type 0
Gives None HasValue usual v = v ≡ usual
Gives (Some text) HasValue usual v = HasValue text v

-- one to six fields and the control that they write
pub record AreFields (texts : List (List ℕ)) (c : Control) : Type 0 where
  pub turn : IsSomeAnd (field texts 1) (λ text. IsTime text c.turn)
  pub reserve : Gives (field texts 2) IsTime 0 c.reserve
  pub percent : Gives (field texts 3) IsPercent 100 c.percent
  pub cap : Gives (field texts 4) IsTime 0 c.cap
  pub game : Gives (field texts 5) IsGame limits.None c.game
  pub limit : Gives (field texts 6) IsTime 0 c.limit
  pub no_more : length texts ≤ 6

-- a text and the control that it writes
abbrev pub IsControl : List ℕ → Control → Type 0
IsControl text c = AreFields (fields text) c

-- the text of a field is good: the third is a percentage, the fifth a game limit, each other a
-- time, and there are six
pub record IsGood (k : ℕ) (text : List ℕ) : Type 0 where
  pub known : k ≤ 6
  pub percent : k ≡ 3 → (n : ℕ) × IsPercent text n
  pub game : k ≡ 5 → (limit : GameLimit) × IsGame text limit
  pub time : k ≢ 3 → k ≢ 5 → (ms : ℕ) × IsTime text ms

-- the k-th field stands and is bad, and each one before it is good
pub record IsFirstBad (texts : List (List ℕ)) (k : ℕ) : Type 0 where
  pub counted : 0 < k
  pub bad : IsSomeAnd (field texts k) (λ text. ¬ (IsGood k text))
  pub earlier : (j : ℕ) → 0 < j → j < k → IsSomeAnd (field texts j) (λ text. IsGood j text)

-- the fault that names the first bad field of a text
abbrev pub NamesFirstBad : List (List ℕ) → ControlFault → Type 0
NamesFirstBad texts (Field k) = IsFirstBad texts k
