use Rattle.std.proofs.Common.{◌≡◌, ◌+◌, ◌*◌, ◌++◌, drop}
use Rattle.arimaa_archive.specs.Report.{text_of_records}
use Rattle.arimaa_archive.proofs.report.all_records_text.Given as goal

-- the text of the blocks so far, and that of the records after them, is that of all records
abbrev pub invariant-joined : goal.invariant-joined
invariant-joined g l =
    l.text.items ++ text_of_records (l.place * l.size + 1) (drop (l.place * l.size) l.told)
    ≡ text_of_records 1 l.told
