-- What thinking comes to.
use Rattle.std.specs.Prelude.{ℕ, List, Result, Ok, Err}
use Rattle.std.specs.declared.alloc.AllocError.{AllocError}
use Rattle.arimaa_match.specs.declared.side_fault.SideFault.{SideFault}
use Rattle.arimaa_match.specs.Match.{Thought}

-- the time used, with the line that was heard
abbrev pub thought : List ℕ → Result (Result ℕ SideFault) AllocError
    → Result (Result Thought SideFault) AllocError
thought line (Ok (Ok used)) = Ok (Ok (record { used = used; line = line }))
thought line (Ok (Err fault)) = Ok (Err fault)
thought line (Err e) = Err e
