use Rattle.std.proofs.Common.{sym}
use Rattle.arimaa_step.specs.Next.{next_state}
use Rattle.arimaa_results.proofs.LeftSquares.{left_empty}
use Rattle.arimaa_results.proofs.layer_lists.kept_after.Goals as goal

pub returns-then-not-is_left_at-clause-kept : goal.returns-then-not-is_left_at-clause-kept
returns-then-not-is_left_at-clause-kept c kept rest is ends =
    let st = c.args.state.now in
    let s = c.args.step.now in
    sym (c.is_left_at.ensures kept rest is ends (next_state st s) c.number-number.ensures.in_range (left_empty st s c.number-number.ensures.in_range c.requires.accepted) c.if-not-is_left_at.true)
