use Rattle.std.proofs.Common.{sym}
use Rattle.arimaa_record.proofs.LabelForms.{label_law}
use Rattle.arimaa_record.proofs.label.read_label.Goals as goal

pub returns : goal.returns
returns c =
    label_law c.args.bytes.now c.in_ok-letter.digits.now c.in_ok-letter.letter.now c.in_ok-side.side c.in_ok-number.number
    c.in_ok-letter.ensures.cases.0 (sym c.in_ok-side.ensures) c.in_ok-number.ensures
