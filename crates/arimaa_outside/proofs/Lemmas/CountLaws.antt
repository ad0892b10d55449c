-- What a port counts over several calls.
use Rattle.std.proofs.Common.{◌≤◌, arith, le_trans}
use Rattle.arimaa_outside.specs.Counts.{Counts, NeverFall}

-- no call
pub falls_never : (now : Counts) → NeverFall now now
falls_never now = record { faults = omega arith; stops = omega arith; lines = omega arith }

-- one call after another
pub never_fall : {old mid new : Counts} → NeverFall old mid → NeverFall mid new → NeverFall old new
never_fall {old} {mid} {new} a b = record { faults = le_trans a.faults b.faults; stops = le_trans a.stops b.stops; lines = le_trans a.lines b.lines }
