-- What one question takes, and what it answers.
use Rattle.std.specs.Prelude.{◌≡◌, ℕ, ◌+◌, ◌<◌, ◌≤◌, Bool, Result, Ok, Err, List}
use Rattle.arimaa_board.specs.declared.piece.Color.{Color}
use Rattle.arimaa_board.specs.declared.position.Position.{Position}
use Rattle.arimaa_model.specs.Wins.{wins}
use Rattle.arimaa_forced.specs.Search.{cost, crowd}
use Rattle.arimaa_search.specs.declared.stop.Stop.{Stop}
use Rattle.arimaa_search.specs.declared.stop.Stop.TheVariants as stop

-- what is left of a budget fell by at most this much
pub record IsPaid (left after price : ℕ) : Type 0 where
  pub falls : after ≤ left
  pub most : left ≤ after + price

-- what a question with this verdict, cost and crowd answers, where a region of this room had so
-- many live positions, and so much of the budget was left
abbrev pub AnsweredBy : Bool → ℕ → ℕ → ℕ → ℕ → ℕ → ℕ → Result Bool Stop → Type 0
AnsweredBy verdict cost crowd room live left after (Ok v) = (v ≡ verdict) × IsPaid left after cost
AnsweredBy verdict cost crowd room live left after (Err stop.Spent) = (left < cost) × (after ≡ 0)
AnsweredBy verdict cost crowd room live left after (Err stop.Crowded) =
    (room < live + crowd) × IsPaid left after cost

-- what the question whether a wins p within n turns answers
abbrev pub Answered : Color → List Position → ℕ → Position → ℕ → ℕ → ℕ → ℕ → Result Bool Stop
    → Type 0
Answered a barred n p = AnsweredBy (wins a barred n p) (cost a barred n p) (crowd barred n p)
