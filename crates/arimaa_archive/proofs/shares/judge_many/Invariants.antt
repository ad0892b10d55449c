use Rattle.std.proofs.Common.{take}
use Rattle.std.specs.List.{AllZip}
use Rattle.arimaa_archive.specs.RecordJudgements.{IsToldOfPart}
use Rattle.arimaa_archive.proofs.shares.judge_many.Given as goal

-- the first records are told
abbrev pub invariant-records : goal.invariant-records
invariant-records g l = AllZip (IsToldOfPart l.bytes) (take l.place l.parts) l.told.items
