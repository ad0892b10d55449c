use Rattle.arimaa_record.specs.Lines.{lines_of}
use Rattle.arimaa_judge.specs.RecordState.{before_lines}
use Rattle.arimaa_judge.proofs.Lemmas.JudgedLines.{one_judgement}
use Rattle.arimaa_judge.proofs.laws.judgements_agree.Goals as goal

pub returns : goal.returns
returns c bytes a b x y = one_judgement c.lines_apart.ensures before_lines 1 (lines_of bytes) a b x y
