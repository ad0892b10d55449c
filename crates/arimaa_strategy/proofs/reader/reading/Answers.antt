use Rattle.std.proofs.Common.{None, Some, sym}
use Rattle.std.proofs.lemmas.List.{append-nil}
use Rattle.arimaa_strategy.proofs.Lemmas.TextReading.{midst-start, midst-more, midst-end}
use Rattle.arimaa_strategy.proofs.reader.reading.Goals as goal

pub loop-line-init : goal.loop-line-init
loop-line-init c = midst-start c.args.attacker c.args.bytes.now c.new-strategy.result c.new-strategy.ensures

pub loop-line-preserved-in_ok-push-in-Some-read_entry :
    goal.loop-line-preserved-in_ok-push-in-Some-read_entry
loop-line-preserved-in_ok-push-in-Some-read_entry c =
    midst-more c.args.attacker c.args.bytes.now c.loop-line.text.now c.in-Some.line.now c.in-Some.rest.now c.loop-line.strategy c.push.new.self c.loop-line.number (Some c.in-Some-read_entry.entry) c.loop-line.invariant
    c.in-Some.ensures.lines c.in-Some.ensures.shorter c.in-Some-read_entry.ensures.form c.in_ok-push-in-Some-read_entry.ensures.pushed

pub loop-line-preserved : goal.loop-line-preserved
loop-line-preserved c =
    midst-more c.args.attacker c.args.bytes.now c.loop-line.text.now c.in-Some.line.now c.in-Some.rest.now c.loop-line.strategy c.loop-line.strategy c.loop-line.number None c.loop-line.invariant
    c.in-Some.ensures.lines c.in-Some.ensures.shorter (c.is_blank_line.ensures.0 c.if-not-is_blank_line.false) (sym (append-nil c.loop-line.strategy))

pub returns : goal.returns
returns c = midst-end c.args.attacker c.args.bytes.now c.loop-line.text.now c.loop-line.strategy c.loop-line.number c.loop-line.invariant c.in_default.ensures.none
