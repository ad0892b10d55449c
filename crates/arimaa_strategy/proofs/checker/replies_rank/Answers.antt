use Rattle.std.proofs.Common.{◌+◌, sym, subst, ℕ, arith}
use Rattle.arimaa_region.specs.Segments.{live_of, segment_of}
use Rattle.arimaa_strategy.specs.Entries.{plan_of}
use Rattle.arimaa_strategy.proofs.Lemmas.Looks.{Midst, next_of, midst_start, midst_more, midst_open, midst_end}
use Rattle.arimaa_strategy.proofs.checker.replies_rank.Goals as goal

pub loop-k-init : goal.loop-k-init
loop-k-init c = (midst_start c.args.attacker (plan_of c.args.strategy.now) (segment_of c.args.region.now.segments c.args.mark), omega arith)

pub loop-k-preserved : goal.loop-k-preserved
loop-k-preserved c =
    let seg = segment_of c.args.region.now.segments c.args.mark in
    let next = next_of (live_of c.args.region.now.segments) seg c.segment-first.result.0 c.segment-first.result.1 c.loop-k.k c.segment-first.ensures.places c.segment-first.ensures.size c.loop-k-test.true c.get.result c.get.ensures in
    let more = midst_more c.args.attacker (plan_of c.args.strategy.now) seg c.loop-k.k c.loop-k.top c.in-Some.rank c.get.result c.loop-k.invariant.0 next (sym c.in-Some.ensures) in
    (subst (λ (n : ℕ). Midst c.args.attacker (plan_of c.args.strategy.now) seg (c.loop-k.k + 1) n) (sym c.raised-top.ensures.value) more, c.raised-top.ensures.small)

pub returns-in-None-clause-rank : goal.returns-in-None-clause-rank
returns-in-None-clause-rank c =
    let seg = segment_of c.args.region.now.segments c.args.mark in
    let next = next_of (live_of c.args.region.now.segments) seg c.segment-first.result.0 c.segment-first.result.1 c.loop-k.k c.segment-first.ensures.places c.segment-first.ensures.size c.loop-k-test.true c.get.result c.get.ensures in
    midst_open c.args.attacker (plan_of c.args.strategy.now) seg c.loop-k.k c.loop-k.top c.get.result c.loop-k.invariant.0 next (sym c.in-None.ensures)

pub returns-clause-rank : goal.returns-clause-rank
returns-clause-rank c =
    let seg = segment_of c.args.region.now.segments c.args.mark in
    midst_end c.args.attacker (plan_of c.args.strategy.now) seg c.loop-k.k c.loop-k.top c.loop-k.invariant.0 (omega (arith, c.segment-first.ensures.size, c.loop-k-test.false))
