-- What contracts see of an account.
use Rattle.std.specs.Prelude.{ℕ}
use Rattle.arimaa_time.specs.declared.control.Control.{Control}

-- the time control that it is kept by, and the milliseconds in reserve
pub record Standing : Type 0 where
  pub control : Control
  pub reserve : ℕ
