use Rattle.std.proofs.Common.{◌≡◌, ◌<◌, ◌+◌, ◌*◌, ◌-◌, ℕ, length}
use Rattle.std.specs.Prelude.{slice_index_or}
use Rattle.arimaa_archive.specs.declared.parts.Part.{Part}
use Rattle.arimaa_archive.specs.declared.record_judgement.Told.{Told}
use Rattle.arimaa_archive.specs.RecordJudgements.{IsToldOfPart}
use Rattle.arimaa_archive.proofs.shares.judge_share.Given as goal

-- what is told so far is told of the worker's first records
abbrev pub invariant-records : goal.invariant-records
invariant-records g l = record {
  place : l.place ≡ l.worker + length l.told.items * l.workers;
  each : (k : ℕ) (part : Part) (d : Told) → k < length l.told.items
      → IsToldOfPart l.bytes (slice_index_or l.parts (l.worker + k * l.workers) part) (slice_index_or l.told.items k d);
}

abbrev pub decreases-records : goal.decreases-records
decreases-records g l = length l.parts - l.place
