-- The exit code of each status.
use Rattle.std.specs.Prelude.{ℕ}
use Rattle.arimaa_outside.specs.declared.status.Status.{Status}
use Rattle.arimaa_outside.specs.declared.status.Status.TheVariants.{Done, Answered, Words, ReadFault, WriteFault, EngineFault, Spent, Crowded, Memory, TooLong}

-- the exit code of the process
abbrev pub exit_code : Status → ℕ
exit_code Done = 0
exit_code Answered = 1
exit_code Words = 2
exit_code ReadFault = 3
exit_code WriteFault = 4
exit_code EngineFault = 5
exit_code Spent = 6
exit_code Crowded = 7
exit_code Memory = 8
exit_code TooLong = 9
