use Rattle.std.proofs.lemmas.List.Elements.{All-rest}
use Rattle.arimaa_outside.specs.MemSpawner.{IsFresh}
use Rattle.arimaa_outside.proofs.mem_spawner.next_port.Goals as goal

pub returns-in-Some-clause-all_fresh : goal.returns-in-Some-clause-all_fresh
returns-in-Some-clause-all_fresh c = All-rest IsFresh _ _ _ c.in-Some.ensures.items c.requires
