-- What a port over a reader and a writer counts.
use Rattle.arimaa_outside.specs.Counts.{Counts}
use Rattle.arimaa_outside.specs.declared.std_port.StdPort.{StdPort}

-- its three counts
abbrev pub counts_of : {R W : Type 0} → StdPort R W → Counts
counts_of p = record { faults = p.faults; stops = p.stops; lines = p.lines }
