use Rattle.std.proofs.Common.{◌≡◌, ◌<◌, ℕ, get_or, false}
use Rattle.arimaa_record.specs.Lines.{is_feed}
use Rattle.arimaa_cli.proofs.parts.first_line_len.Given as goal

abbrev pub invariant-loop-place : goal.invariant-loop-place
invariant-loop-place l = (k : ℕ) → k < l.place → is_feed (get_or l.bytes k 0) ≡ false
