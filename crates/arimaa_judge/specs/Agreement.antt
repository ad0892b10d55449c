-- What holds of every judgement.
use Rattle.std.specs.Prelude.{◌≡◌, ◌≤◌, ℕ, List, length}
use Rattle.arimaa_record.specs.Lines.{lines_of}
use Rattle.arimaa_record.specs.declared.label.Label.{Label}
use Rattle.arimaa_judge.specs.declared.judgement.Judged.{Judged}
use Rattle.arimaa_judge.specs.declared.judgement.Judged.TheVariants.{Bad}
use Rattle.arimaa_judge.specs.declared.rule.Rule.{Rule}
use Rattle.arimaa_judge.specs.Judgement.{IsJudged}

-- no input has two judgements
abbrev pub JudgementsAgree : Type 0
JudgementsAgree = (bytes : List ℕ) (a b : Judged) → IsJudged bytes a → IsJudged bytes b → a ≡ b

-- the number of a first bad line is that of one of the lines, counted from 1
abbrev pub BadLinesAreThere : Type 0
BadLinesAreThere =
    (bytes : List ℕ) (number : ℕ) (due : Label) (rule : Rule) → IsJudged bytes (Bad number due rule)
    → (1 ≤ number) × (number ≤ length (lines_of bytes))
