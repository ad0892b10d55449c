-- What contracts see of a worker.
use Rattle.std.specs.Prelude.{ℕ}

-- the places that its region has, the questions that it may open in a call, and those that it
-- opened in the last one
pub record Means : Type 0 where
  pub room : ℕ
  pub budget : ℕ
  pub counted : ℕ
