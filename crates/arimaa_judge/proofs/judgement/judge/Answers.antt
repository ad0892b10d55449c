use Rattle.std.proofs.Common.{ap, ◌∙◌}
use Rattle.arimaa_record.specs.Lines.{lines_of}
use Rattle.arimaa_record.proofs.Lemmas.LineLaws.{no_lines}
use Rattle.arimaa_judge.proofs.judgement.judge.Goals as goal

pub returns-clause-judged : goal.returns-clause-judged
returns-clause-judged c =
    let none = ap lines_of c.in_default.ensures.none ∙ no_lines in
    c.lines.invariant.judged c.judged-2.result (rw none c.judged-2.ensures.leads)
