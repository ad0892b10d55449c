use Rattle.std.proofs.Common.{◌≡◌, ◌+◌, ◌++◌, drop}
use Rattle.arimaa_archive.specs.Report.{text_of_records}
use Rattle.arimaa_archive.proofs.report.records_text.Given as goal

-- the text so far, and that of the records that are left, is that of all records
abbrev pub invariant-loop-place : goal.invariant-loop-place
invariant-loop-place l =
    l.text.items ++ text_of_records (l.first + l.place) (drop l.place l.told)
    ≡ text_of_records l.first l.told
