-- Why a prover stops without a verdict.
use Rattle.std.specs.Prelude.{◌≡◌, ℕ, ◌<◌}
use Rattle.arimaa_board.specs.declared.position.Position.{Position}
use Rattle.arimaa_forced.specs.Search.{cost, crowd}
use Rattle.arimaa_pool.specs.declared.stop.Stop.{Stop}
use Rattle.arimaa_pool.specs.declared.stop.Reason.{Reason}
use Rattle.arimaa_pool.specs.declared.stop.Reason.TheVariants.{Spent, Crowded}
use Rattle.arimaa_pool.specs.Terms.{Terms}

-- the question on q and j is too dear for the budget, or too crowded for the room
abbrev pub HasCause : Terms → Position → ℕ → Reason → Type 0
HasCause t q j (Spent counted) = (t.budget < cost t.attacker t.barred j q) × (counted ≡ t.budget)
HasCause t q j Crowded = t.room < crowd t.barred j q

-- a stop names a question of this kind, and has its cause
pub record IsStop (t : Terms) (Kind : Position → ℕ → Type 0) (s : Stop) : Type 0 where
  pub kind : Kind s.position s.depth
  pub cause : HasCause t s.position s.depth s.reason
