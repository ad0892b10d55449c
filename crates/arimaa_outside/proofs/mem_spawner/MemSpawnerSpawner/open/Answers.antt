use Rattle.arimaa_outside.proofs.mem_spawner.MemSpawnerSpawner.open.Goals as goal

pub returns-in-Err-clause-only_then : goal.returns-in-Err-clause-only_then
returns-in-Err-clause-only_then c = rw (← c.self.view_is) (λ _. c.in-Err.ensures.only_then)
