use Rattle.std.proofs.Common.{◌≡◌, ◌∙◌, ap, refl}
use Rattle.arimaa_record.specs.Label.{previous_label}
use Rattle.arimaa_record.proofs.Lemmas.LabelOrder.{previous-next}
use Rattle.arimaa_record.proofs.label.Label.previous.Goals as goal

pub returns-in-Gold-clause-back : goal.returns-in-Gold-clause-back
returns-in-Gold-clause-back c label other is =
    let value : c.new.result ≡ previous_label c.args.self = rw (c.in-Gold.is, c.new.ensures, c.saturating_sub.ensures) refl in
    value ∙ (ap previous_label is ∙ previous-next label other)

pub returns-in-Silver-clause-back : goal.returns-in-Silver-clause-back
returns-in-Silver-clause-back c label other is =
    let value : c.new-in-Silver.result ≡ previous_label c.args.self = rw (c.in-Silver.is, c.new-in-Silver.ensures) refl in
    value ∙ (ap previous_label is ∙ previous-next label other)
