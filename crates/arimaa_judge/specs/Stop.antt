-- What keeps a record from being judged.
use Rattle.arimaa_outside.specs.declared.source.ReadAll.{ReadAll}
use Rattle.arimaa_outside.specs.declared.source.ReadAll.TheVariants as read
use Rattle.arimaa_judge.specs.declared.stop.JudgeStop.{JudgeStop}
use Rattle.arimaa_judge.specs.declared.stop.JudgeStop.TheVariants as stop

-- what keeps a record from being judged whose lines could not all be read
abbrev pub stop_of : ReadAll → JudgeStop
stop_of read.Fault = stop.Fault
stop_of read.TooLong = stop.TooLong
stop_of read.Memory = stop.Memory
