use Rattle.std.proofs.Common.{sym, ◌∙◌, ◌∷◌, ap}
use Rattle.arimaa_judge.specs.RecordStateInvariant.{labels_before}
use Rattle.arimaa_judge.proofs.DueLabels.{labels-again, labels-less}
use Rattle.arimaa_judge.proofs.record_state.label_taken_back.Goals as goal

pub returns-then-repeated-gt0-clause-labels : goal.returns-then-repeated-gt0-clause-labels
returns-then-repeated-gt0-clause-labels c turns = labels-again turns c.args.repeated c.args.due c.if-repeated-gt0.true

pub returns-else-repeated-gt0-clause-labels : goal.returns-else-repeated-gt0-clause-labels
returns-else-repeated-gt0-clause-labels c turns =
    labels-less turns c.args.repeated c.args.due c.if-repeated-gt0.false
    ∙ ap (λ label. label ∷ labels_before turns 0 label) (sym c.previous.ensures.value)
