use Rattle.std.proofs.Common.{◌≡◌, ◌≤◌, ◌+◌, length}
use Rattle.arimaa_record.specs.Lines.{lines_of}
use Rattle.arimaa_archive.specs.Archive.{first_content}
use Rattle.arimaa_archive.proofs.parts.first_content.Given as goal

-- the lines so far have no content, and each of them has a byte
abbrev pub invariant-lines : goal.invariant-lines
invariant-lines l = record {
  bound : l.number + length l.rest ≤ length l.bytes + 1;
  same : first_content 1 (lines_of l.bytes) ≡ first_content l.number (lines_of l.rest);
}

abbrev pub decreases-lines : goal.decreases-lines
decreases-lines l = length l.rest
