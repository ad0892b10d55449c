use Rattle.std.proofs.Common.{◌≡◌, ◌+◌, ◌-◌, ◌≤◌, length, take}
use Rattle.arimaa_notation.specs.Written.{with_item}
use Rattle.arimaa_notation.proofs.writer.push_item.Given as goal

abbrev pub invariant-loop-byte : goal.invariant-loop-byte
invariant-loop-byte g l = (l.text.bytes ≡ with_item l.fn.text.bytes (take l.byte-index l.item)) × (length l.text.bytes + (length l.item - l.byte-index) ≤ g.row.CAP)
