use Rattle.arimaa_record.proofs.Lemmas.LineLaws.{lines-cut, filled_by_test}
use Rattle.arimaa_record.proofs.lines.first_line.Goals as goal

pub returns-clause-lines : goal.returns-clause-lines
returns-clause-lines c =
    lines-cut c.args.bytes.now c.split_at.result.0.now c.split_at.result.1.now c.without_return.result.now c.after_first.result.now c.line_len.result
    (filled_by_test c.args.bytes.now c.is_empty.result c.is_empty.ensures c.if-is_empty.false)
    c.line_len.ensures.value c.split_at.ensures.front c.split_at.ensures.back c.without_return.ensures c.after_first.ensures
