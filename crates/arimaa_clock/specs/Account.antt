-- The account of one side's time, over the times that its turns took, in milliseconds.
use Rattle.std.specs.Prelude.{ℕ, ◌+◌, ◌<◌, ◌⊎◌, Bool, ◌&&◌, ◌||◌, nat_lt, List, if◌then◌else◌, fold}
use Rattle.arimaa_time.specs.declared.control.Control.{Control}
use Rattle.arimaa_clock.specs.declared.account.Spend.{Spend}
use Rattle.arimaa_clock.specs.declared.account.Spend.TheVariants.{Kept, Out}
use Rattle.arimaa_clock.specs.ClockState.{Standing}
use Rattle.arimaa_clock.specs.Reserve.{reserve_after}

-- the time has run out: the turn took more than its own time and the reserve, or more than one turn
-- may take
abbrev pub IsOut : Standing → ℕ → Type 0
IsOut a used = (a.control.turn + a.reserve < used)
    ⊎ ((0 < a.control.limit) × (a.control.limit < used))

-- the same, as a test
abbrev pub is_out : Standing → ℕ → Bool
is_out a used = nat_lt (a.control.turn + a.reserve) used
    || (nat_lt 0 a.control.limit && nat_lt a.control.limit used)

-- an account as it is opened
abbrev pub new_account : Control → Standing
new_account c = record { control = c; reserve = c.reserve }

-- the account after a turn that took so long; one that has run out of time stays as it is
abbrev pub account_once_booked : Standing → ℕ → Standing
account_once_booked a used = if is_out a used then a else record a
    { reserve = reserve_after a.control a.reserve used }

-- what is answered for that turn
abbrev pub answer_of : Standing → ℕ → Spend
answer_of a used = if is_out a used then Out else Kept (reserve_after a.control a.reserve used)

-- a fact of the reserve, where the turn was made in time
abbrev pub IfKept : Spend → (ℕ → Type 0) → Type 0
IfKept (Kept reserve) P = P reserve
IfKept Out P = Unit {0}

-- the account after turns that took so long, in order
abbrev pub account_after : Control → List ℕ → Standing
account_after c times = fold account_once_booked (new_account c) times
