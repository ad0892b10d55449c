use Rattle.std.proofs.Common.{◌≤◌, ◌+◌, length}
use Rattle.arimaa_record.specs.Lines.{lines_of}
use Rattle.arimaa_judge.specs.declared.judgement.Judged.{Judged}
use Rattle.arimaa_judge.specs.Judgement.{IsJudged}
use Rattle.arimaa_judge.specs.Progress.{LeadsTo}
use Rattle.arimaa_judge.proofs.judgement.judge.Given as goal

-- what the lines so far and those that are left lead to is the judgement of all
abbrev pub invariant-lines : goal.invariant-lines
invariant-lines l = record {
  bound : l.progress.number + length l.rest ≤ length l.bytes;
  judged : (judged : Judged) → LeadsTo l.progress (lines_of l.rest) judged → IsJudged l.bytes judged;
}

abbrev pub decreases-lines : goal.decreases-lines
decreases-lines l = length l.rest
