-- What a spawner of children counts.
use Rattle.arimaa_outside.specs.Counts.{Counts}
use Rattle.arimaa_child.specs.declared.spawner.ChildSpawner.{ChildSpawner}

-- the three counts of a spawner
abbrev pub spawner_counts : {R : Type 0} → ChildSpawner R → Counts
spawner_counts s = record { faults = s.faults; stops = s.stops; lines = s.lines }
