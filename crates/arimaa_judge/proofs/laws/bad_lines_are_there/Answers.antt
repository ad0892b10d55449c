use Rattle.std.proofs.Common.{arith}
use Rattle.arimaa_record.specs.Lines.{lines_of}
use Rattle.arimaa_judge.specs.RecordState.{before_lines}
use Rattle.arimaa_judge.proofs.Lemmas.JudgedLines.{bad_number}
use Rattle.arimaa_judge.proofs.laws.bad_lines_are_there.Goals as goal

pub returns : goal.returns
returns c bytes number due rule is =
    let there = bad_number before_lines 1 (lines_of bytes) number due rule is in
    (there.0, omega (arith, there.1))
