use Rattle.std.proofs.Common.{◌∙◌, subst}
use Rattle.arimaa_judge.specs.Judgement.{IsJudged}
use Rattle.arimaa_cli.proofs.record.told.Goals as goal

pub returns-in_ok-bad_text-in-Bad : goal.returns-in_ok-bad_text-in-Bad
returns-in_ok-bad_text-in-Bad c = λ bytes is. record {
  number = c.in-Bad.line;
  due = c.in-Bad.label;
  rule = c.in-Bad.rule;
  judged = subst (IsJudged bytes) c.in-Bad.is is;
  told = c.new.ensures ∙ c.in_ok-bad_text-in-Bad.ensures;
}

pub returns-in-Lawful : goal.returns-in-Lawful
returns-in-Lawful c = λ bytes is. subst (IsJudged bytes) c.in-Lawful.is is
