use Rattle.std.proofs.Common.{⊎_elim}
use Rattle.std.proofs.lemmas.Bool.{both_ways}
use Rattle.arimaa_refute.proofs.Lemmas.EscapeReading.{escapes-start, escapes-more, escapes-blank, escapes-bad, escapes-end}
use Rattle.arimaa_refute.proofs.reader.reading.Goals as goal

pub loop-line-init : goal.loop-line-init
loop-line-init c = escapes-start c.args.attacker c.args.bytes.now c.new-escapes.result c.new-escapes.ensures

pub returns-in-None : goal.returns-in-None
returns-in-None c =
    escapes-bad c.args.attacker c.args.bytes.now c.loop-line.text.now c.in-Some.line.now c.in-Some.rest.now c.loop-line.escapes c.loop-line.number c.loop-line.invariant c.in-Some.ensures.lines
    (λ good. ⊎_elim (λ blank. both_ways _ c.if-not-is_blank_line.true (c.is_blank_line.ensures.1 blank)) (λ some. c.in-None.ensures.none some.0 some.1) good)

pub loop-line-preserved-in_ok-push-in-Some-read_escape :
    goal.loop-line-preserved-in_ok-push-in-Some-read_escape
loop-line-preserved-in_ok-push-in-Some-read_escape c =
    escapes-more c.args.attacker c.args.bytes.now c.loop-line.text.now c.in-Some.line.now c.in-Some.rest.now c.loop-line.escapes c.push.new.self c.loop-line.number c.in-Some-read_escape.escape c.loop-line.invariant
    c.in-Some.ensures.lines c.in-Some.ensures.shorter c.in-Some-read_escape.ensures.form c.in_ok-push-in-Some-read_escape.ensures.pushed

pub loop-line-preserved : goal.loop-line-preserved
loop-line-preserved c =
    escapes-blank c.args.attacker c.args.bytes.now c.loop-line.text.now c.in-Some.line.now c.in-Some.rest.now c.loop-line.escapes c.loop-line.number c.loop-line.invariant
    c.in-Some.ensures.lines c.in-Some.ensures.shorter (c.is_blank_line.ensures.0 c.if-not-is_blank_line.false)

pub returns : goal.returns
returns c = escapes-end c.args.attacker c.args.bytes.now c.loop-line.text.now c.loop-line.escapes c.loop-line.number c.loop-line.invariant c.in_default.ensures.none
