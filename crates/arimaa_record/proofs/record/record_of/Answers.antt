use Rattle.arimaa_record.proofs.RecordReading.{midst-more, midst-end}
use Rattle.arimaa_record.proofs.record.record_of.Goals as goal

pub loop-line-preserved : goal.loop-line-preserved
loop-line-preserved c =
    midst-more c.args.bytes.now c.loop-line.text.now c.in-Some.line.now c.in-Some.rest.now c.loop-line.record c.push.new.self c.loop-line.number c.in-Ok.line c.loop-line.invariant
    c.in-Some.ensures.lines c.in-Some.ensures.shorter c.in-Ok.ensures.reading c.in_ok-push-in-Ok.ensures.pushed

pub returns : goal.returns
returns c = midst-end c.args.bytes.now c.loop-line.text.now c.loop-line.record c.loop-line.number c.loop-line.invariant c.in_default.ensures.none
