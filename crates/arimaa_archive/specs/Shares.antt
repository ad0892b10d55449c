-- How the records are dealt to the workers.
use Rattle.std.specs.Prelude.{◌<◌, ℕ, ◌+◌, ◌*◌, List, length, slice_index_or}
use Rattle.arimaa_archive.specs.declared.parts.Part.{Part}
use Rattle.arimaa_archive.specs.declared.record_judgement.Told.{Told}
use Rattle.arimaa_archive.specs.RecordJudgements.{IsToldOfPart}

-- what one of so many workers tells of its records, whose number, modulo that of the workers, is
-- its own
pub record IsShare (bytes : List ℕ) (parts : List Part) (worker workers : ℕ) (told : List Told)
    : Type 0 where
  pub whole : (k : ℕ) → worker + k * workers < length parts → k < length told
  pub each : (k : ℕ) (part : Part) (d : Told) → k < length told
      → IsToldOfPart bytes (slice_index_or parts (worker + k * workers) part)
      (slice_index_or told k d)
