use Rattle.std.proofs.Common.{sym, ◌∙◌, arith}
use Rattle.arimaa_region.specs.Segments.{live_of, segment_of}
use Rattle.arimaa_strategy.proofs.Lemmas.Looks.{next_of}
use Rattle.arimaa_refute.specs.Escapes.{is_safe}
use Rattle.arimaa_refute.proofs.Waiting.{all-more, all-stop, all-end}
use Rattle.arimaa_refute.proofs.verifier.are_safe.Goals as goal

pub loop-k-preserved : goal.loop-k-preserved
loop-k-preserved c =
    let seg = segment_of c.args.region.now.segments c.args.mark in
    let next = next_of (live_of c.args.region.now.segments) seg c.segment-first.result.0 c.segment-first.result.1 c.loop-k.k c.segment-first.ensures.places c.segment-first.ensures.size c.loop-k-test.true c.get.result c.get.ensures in
    all-more (is_safe c.args.attacker c.args.barred.now c.args.escapes.now c.args.turns) seg c.loop-k.k c.get.result next (sym c.is_safe.ensures ∙ c.if-not-is_safe.false) c.loop-k.invariant

pub returns-then-not-is_safe-clause-safe : goal.returns-then-not-is_safe-clause-safe
returns-then-not-is_safe-clause-safe c =
    let seg = segment_of c.args.region.now.segments c.args.mark in
    let next = next_of (live_of c.args.region.now.segments) seg c.segment-first.result.0 c.segment-first.result.1 c.loop-k.k c.segment-first.ensures.places c.segment-first.ensures.size c.loop-k-test.true c.get.result c.get.ensures in
    all-stop (is_safe c.args.attacker c.args.barred.now c.args.escapes.now c.args.turns) seg c.loop-k.k c.get.result next (sym c.is_safe.ensures ∙ c.if-not-is_safe.true) c.loop-k.invariant

pub returns-clause-safe : goal.returns-clause-safe
returns-clause-safe c =
    let seg = segment_of c.args.region.now.segments c.args.mark in
    all-end (is_safe c.args.attacker c.args.barred.now c.args.escapes.now c.args.turns) seg c.loop-k.k (omega (arith, c.segment-first.ensures.size, c.loop-k-test.false)) c.loop-k.invariant
