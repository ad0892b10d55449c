use Rattle.std.proofs.Common.{sym, ◌∙◌, true, false}
use Rattle.arimaa_judge.proofs.DueLabels.{labels-more}
use Rattle.arimaa_judge.proofs.record_state.repeated_after.Goals as goal

pub returns-then-is_last-clause-labels : goal.returns-then-is_last-clause-labels
returns-then-is_last-clause-labels c =
    labels-more c.args.turns c.args.repeated c.args.due true (sym c.is_last.ensures ∙ c.if-is_last.true) c.requires.some c.requires.repeats

pub returns-else-is_last-clause-labels : goal.returns-else-is_last-clause-labels
returns-else-is_last-clause-labels c =
    labels-more c.args.turns c.args.repeated c.args.due false (sym c.is_last.ensures ∙ c.if-is_last.false) c.requires.some c.requires.repeats
