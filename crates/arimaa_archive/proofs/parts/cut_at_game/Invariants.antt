use Rattle.std.proofs.Common.{◌-◌, length}
use Rattle.arimaa_archive.specs.Archive.{IsLineStart}
use Rattle.arimaa_archive.proofs.parts.cut_at_game.Given as goal

abbrev pub invariant-lines : goal.invariant-lines
invariant-lines l = IsLineStart l.bytes l.at

abbrev pub decreases-lines : goal.decreases-lines
decreases-lines l = length l.bytes - l.at
