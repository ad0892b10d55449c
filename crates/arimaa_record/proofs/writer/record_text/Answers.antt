use Rattle.std.proofs.Common.{◌≡◌, List, take, ◌∙◌, ap, subst, take_all}
use Rattle.std.specs.List.{AllByRecursion}
use Rattle.arimaa_notation.proofs.Lemmas.ReadingBack.{all_more}
use Rattle.arimaa_record.specs.declared.line.RecordLine.{RecordLine}
use Rattle.arimaa_record.specs.Written.{text_of_record}
use Rattle.arimaa_record.proofs.WrittenBack.{ReadsBack, record_more, record_back}
use Rattle.arimaa_record.proofs.writer.record_text.Goals as goal

pub loop-line-preserved : goal.loop-line-preserved
loop-line-preserved c =
    let ls = c.lines-line-items.result.now in
    let i = c.loop-line.line-index in
    let l = c.line-item.result in (
      record_more ls i l c.loop-line.text.items c.push_line.new.text.items c.loop-line-test.true c.line-item.is c.loop-line.invariant.0 c.in_ok-push_line.ensures.text,
      all_more ReadsBack ls i l c.loop-line-test.true c.line-item.is c.loop-line.invariant.1 c.in_ok-push_line.ensures.reads_back,
    )

pub returns-clause-reads_back : goal.returns-clause-reads_back
returns-clause-reads_back c =
    let ls = c.lines-line-items.result.now in
    let whole : take c.loop-line.line-index ls ≡ c.args.record.now = take_all c.loop-line.line-index ls c.loop-line-test.false ∙ c.lines-line-items.ensures in
    let P : List RecordLine → Type 0 = AllByRecursion ReadsBack in
    record_back c.loop-line.text.items c.args.record.now (c.loop-line.invariant.0 ∙ ap text_of_record whole) (subst P whole c.loop-line.invariant.1)
