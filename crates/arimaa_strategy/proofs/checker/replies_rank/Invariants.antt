use Rattle.std.proofs.Common.{◌≤◌}
use Rattle.arimaa_region.specs.Segments.{segment_of}
use Rattle.arimaa_strategy.specs.Entries.{plan_of}
use Rattle.arimaa_strategy.proofs.Lemmas.Looks.{Midst}
use Rattle.arimaa_strategy.proofs.checker.replies_rank.Given as goal

abbrev pub invariant-loop-k : goal.invariant-loop-k
invariant-loop-k l = Midst l.attacker (plan_of l.strategy) (segment_of l.region.segments l.fn.mark) l.k l.top × (l.top ≤ 256)
