use Rattle.std.proofs.Common.{sym, ◌∙◌, true≢false}
use Rattle.arimaa_record.proofs.ReaderLaws.{unlabelled}
use Rattle.arimaa_record.proofs.reader.reading.Goals as goal

pub returns-in-None : goal.returns-in-None
returns-in-None c =
    unlabelled c.args.bytes.now c.in-Some.item.now c.in-Some.rest.now c.in-Some.ensures.first (sym c.is_comment.ensures ∙ c.if-is_comment.false)
    (λ e. true≢false (sym (c.is_start.ensures.1 e) ∙ c.if-is_start.false)) (λ l h. let k = (c.in-None.ensures l).1 h in cc)
