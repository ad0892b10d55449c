use Rattle.std.proofs.Common.{◌≡◌, take}
use Rattle.std.specs.List.{AllByRecursion}
use Rattle.arimaa_record.specs.Written.{text_of_record}
use Rattle.arimaa_record.proofs.WrittenBack.{ReadsBack}
use Rattle.arimaa_record.proofs.writer.record_text.Given as goal

abbrev pub invariant-loop-line : goal.invariant-loop-line
invariant-loop-line l = (l.text.items ≡ text_of_record (take l.line-index l.line-items)) × AllByRecursion ReadsBack (take l.line-index l.line-items)
