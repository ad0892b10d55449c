-- What a line says is one thing.
use Rattle.std.specs.Prelude.{◌≡◌, ℕ, List, Result}
use Rattle.arimaa_record.specs.declared.line.RecordLine.{RecordLine}
use Rattle.arimaa_record.specs.declared.fault.LineFault.{LineFault}
use Rattle.arimaa_record.specs.Grammar.{IsLineReading}

-- no line has two readings
abbrev pub LinesApart : Type 0
LinesApart = (bytes : List ℕ) (r s : Result RecordLine LineFault) → IsLineReading bytes r
    → IsLineReading bytes s → r ≡ s
