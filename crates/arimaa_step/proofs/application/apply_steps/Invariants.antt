use Rattle.std.proofs.Common.{◌≡◌, take, drop, reverse}
use Rattle.arimaa_model.specs.Faults.{first_fault, first_fault_after}
use Rattle.arimaa_step.specs.State.{state_of}
use Rattle.arimaa_step.proofs.application.apply_steps.Given as goal

abbrev pub invariant-loop-k : goal.invariant-loop-k
invariant-loop-k l =
    (l.state ≡ state_of l.p (reverse (take l.k l.steps)))
    × (first_fault_after l.p.board l.p.side (reverse (take l.k l.steps)) (drop l.k l.steps) ≡ first_fault l.p.board l.p.side l.steps)
