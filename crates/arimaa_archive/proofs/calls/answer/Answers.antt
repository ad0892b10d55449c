use Rattle.std.proofs.Common.{sym, ◌∙◌, ap}
use Rattle.arimaa_record.specs.Lines.{lines_of}
use Rattle.arimaa_archive.specs.Report.{text_of_report}
use Rattle.arimaa_archive.proofs.AnswerLaws.{report_answer, stray_answer}
use Rattle.arimaa_archive.proofs.calls.answer.Goals as goal

pub returns-in-Some-clause-answer : goal.returns-in-Some-clause-answer
returns-in-Some-clause-answer g c =
    stray_answer c.args.bytes.now c.requires.few c.split_at.result.0.now
    (ap lines_of c.split_at.ensures.front ∙ c.cut_at_game-cut.ensures.before)
    c.in-Some.number c.in_ok-stray_text.field-0.items c.in-Some.ensures c.in_ok-stray_text.ensures

pub returns-clause-answer : goal.returns-clause-answer
returns-clause-answer g c =
    report_answer c.args.bytes.now c.requires.few c.split_at.result.0.now
    (ap lines_of c.split_at.ensures.front ∙ c.cut_at_game-cut.ensures.before)
    c.in_ok-parts.parts.items c.in_ok-told.told.items c.in_ok-report.field-0.items c.in_default.ensures
    (c.in_ok-parts.ensures.records ∙ sym c.cut_at_game-cut.ensures.records)
    (rw c.deref.ensures.value at c.in_ok-told.ensures)
    (c.in_ok-report.ensures ∙ ap text_of_report c.deref-2.ensures.value)
