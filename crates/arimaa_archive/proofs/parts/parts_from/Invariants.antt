use Rattle.std.proofs.Common.{◌≡◌, ◌<◌, ◌≤◌, ◌+◌, ◌-◌, ◌++◌, ℕ, List, Option, None, Some, length, map, vec_len}
use Rattle.std.specs.Prelude.{All, IfSome}
use Rattle.arimaa_archive.specs.Archive.{IsWithin, lines_of_part, records_from}
use Rattle.arimaa_archive.proofs.parts.parts_from.Given as goal

-- the parts so far, and then the records from the next one on, are those from the first one on
abbrev pub invariant-records : goal.invariant-records
invariant-records l = record {
  place : IfSome l.next (λ place. (vec_len l.parts < place) × (place ≤ length l.bytes));
  few : vec_len l.parts ≤ length l.bytes;
  within : All (IsWithin (length l.bytes)) l.parts.items;
  records : map (lines_of_part l.bytes) l.parts.items ++ records_from l.bytes l.next
      ≡ records_from l.bytes l.fn.first;
}

-- how many bytes stand after a place, and one more; none where there is no place
abbrev left_after : List ℕ → Option ℕ → ℕ
left_after bytes None = 0
left_after bytes (Some place) = length bytes + 1 - place

abbrev pub decreases-records : goal.decreases-records
decreases-records l = left_after l.bytes l.next
