use Rattle.std.proofs.Common.{Ok, Err, sym, reverse, take}
use Rattle.arimaa_step.proofs.Walking.{walk_fault, walk_more, walk_end}
use Rattle.arimaa_step.proofs.application.apply_steps.Goals as goal

pub returns-in-Err : goal.returns-in-Err
returns-in-Err c =
    let i = c.loop-k in
    sym (walk_fault c.args.p.now c.args.steps.now i.k c.index-steps-k.result c.loop-k-test.true (sym c.index-steps-k.is) i.invariant.1 c.in-Err.fault
    (sym (c.in-Err.ensures.answer c.args.p.now (reverse (take i.k c.args.steps.now)) i.invariant.0)))

pub loop-k-preserved : goal.loop-k-preserved
loop-k-preserved c =
    let i = c.loop-k in
    walk_more c.args.p.now c.args.steps.now i.k c.index-steps-k.result c.loop-k-test.true (sym c.index-steps-k.is) i.invariant.1 c.in-Ok.done
    (sym (c.in-Ok.ensures.answer c.args.p.now (reverse (take i.k c.args.steps.now)) i.invariant.0))

pub returns-in-Ok-finish : goal.returns-in-Ok-finish
returns-in-Ok-finish c =
    let i = c.loop-k in
    walk_end c.args.p.now c.args.steps.now i.k c.loop-k-test.false i.invariant.1 (Ok c.in-Ok-finish.position) (c.in-Ok-finish.ensures.answer c.args.p.now (reverse (take i.k c.args.steps.now)) i.invariant.0)

pub returns-in-Err-finish : goal.returns-in-Err-finish
returns-in-Err-finish c =
    let i = c.loop-k in
    walk_end c.args.p.now c.args.steps.now i.k c.loop-k-test.false i.invariant.1 (Err c.in-Err-finish.fault) (c.in-Err-finish.ensures.answer c.args.p.now (reverse (take i.k c.args.steps.now)) i.invariant.0)
