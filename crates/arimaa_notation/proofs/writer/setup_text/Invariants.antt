use Rattle.std.proofs.Common.{◌≡◌, ◌*◌, ◌-◌, ◌≤◌, ◌<◌, length, take}
use Rattle.std.specs.List.{AllByRecursion}
use Rattle.arimaa_notation.specs.Written.{items_text, items_of_entries}
use Rattle.arimaa_notation.proofs.writer.setup_text.Given as goal

abbrev pub invariant-loop-square : goal.invariant-loop-square
invariant-loop-square l = (l.text.bytes ≡ items_text (items_of_entries (take l.square-index l.square-items))) × (length l.text.bytes ≤ 4 * l.square-index - 1) × (length l.square-items ≡ 16) × AllByRecursion (λ e. e.0 < 64) (take l.square-index l.square-items)
