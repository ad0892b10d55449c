use Rattle.std.proofs.Common.{◌≡◌, ◌++◌}
use Rattle.arimaa_meet.specs.Report.{text_of_table}
use Rattle.arimaa_meet.proofs.table.push_table.Given as goal

-- the rows of the first programs are written
abbrev pub invariant-loop-place : goal.invariant-loop-place
invariant-loop-place l = l.text.items ≡ l.initial.text.items ++ text_of_table l.place l.matches
