use Rattle.std.proofs.Common.{refl}
use Rattle.arimaa_outside.proofs.mem_port.MemPortPort.receive.Goals as goal

pub returns-in-Err-clause-only_then : goal.returns-in-Err-clause-only_then
returns-in-Err-clause-only_then c = rw (← c.self.view_is) (λ _. c.in-Err.ensures.fails.0 refl)
