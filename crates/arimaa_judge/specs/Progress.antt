-- The judgement of a record after some of its lines.
use Rattle.std.specs.Prelude.{◌≡◌, ℕ, ◌+◌, ◌∷◌, List, None}
use Rattle.arimaa_judge.specs.declared.judgement.Judged.{Judged}
use Rattle.arimaa_judge.specs.declared.progress.Progress.{Progress}
use Rattle.arimaa_judge.specs.RecordState.{before_lines}
use Rattle.arimaa_judge.specs.Judgement.{IsJudgedFrom, IsOutcome}

-- no line was taken
pub record IsAtBegin (progress : Progress) : Type 0 where
  pub state : progress.state ≡ before_lines
  pub number : progress.number ≡ 0
  pub broken : progress.broken ≡ None

-- the lines that were taken, and then these, have this judgement
abbrev pub LeadsTo : Progress → List (List ℕ) → Judged → Type 0
LeadsTo progress later judged = IsOutcome progress.broken progress.number progress.state.due judged
    (IsJudgedFrom progress.state (progress.number + 1) later judged)

-- where a line has been taken, what the lines after it lead to is what it and they led to before
abbrev pub LeadsOn : Progress → List ℕ → Progress → Type 0
LeadsOn before line after = (later : List (List ℕ)) (judged : Judged)
    → LeadsTo after later judged → LeadsTo before (line ∷ later) judged
