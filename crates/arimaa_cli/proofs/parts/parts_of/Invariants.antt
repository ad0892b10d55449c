use Rattle.std.proofs.Common.{◌-◌, length}
use Rattle.arimaa_cli.proofs.Parting.{IsPassed}
use Rattle.arimaa_cli.proofs.parts.parts_of.Given as goal

abbrev pub invariant-loop-line : goal.invariant-loop-line
invariant-loop-line l = IsPassed l.word l.bytes l.start l.lines

abbrev pub decreases-loop-line : goal.decreases-loop-line
decreases-loop-line l = length l.bytes - l.start
