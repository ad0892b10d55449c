-- Where ports and clock tell, what they told in a match is one thing.
use Rattle.std.specs.Prelude.{◌≡◌, IsSome}
use Rattle.arimaa_match.specs.Parts.{Between, Coming, Lines, Scene}

-- both ports and the clock tell
pub record Tells (s : Scene) : Type 0 where
  pub gold_answers : IsSome s.gold.told.answers
  pub silver_answers : IsSome s.silver.told.answers
  pub to_gold : IsSome s.gold.told.sent
  pub to_silver : IsSome s.silver.told.sent
  pub moments : IsSome s.given

-- between two scenes that tell, these answers and moments came and these lines were sent, and no
-- others
abbrev pub ToldOnce : Type 0
ToldOnce = (old new : Scene) (heard other : Coming) (lines more : Lines) → Tells new
    → Between old new heard lines → Between old new other more → (heard ≡ other) × (lines ≡ more)
