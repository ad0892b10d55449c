use Rattle.std.proofs.Common.{◌≡◌, false, length}
use Rattle.arimaa_record.proofs.line_tests.gives_lines.Given as goal

-- no call has failed
abbrev pub invariant-lines : goal.invariant-lines
invariant-lines g l = l.reader.has_failed ≡ false

abbrev pub decreases-lines : goal.decreases-lines
decreases-lines g l = length l.rest
