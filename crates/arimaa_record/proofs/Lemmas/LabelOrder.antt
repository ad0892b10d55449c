-- The label before the one that is due.
use Rattle.std.proofs.Common.{◌≡◌, ℕ, ◌+◌, ◌-◌, Bool, true, false, refl, ap, arith, true≢false}
use Rattle.std.specs.Prelude.{not, cond, nat_lt}
use Rattle.arimaa_board.specs.declared.piece.Color.{Color}
use Rattle.arimaa_board.specs.declared.piece.Color.TheVariants.{Gold, Silver}
use Rattle.arimaa_record.specs.declared.label.Label.{Label}
use Rattle.arimaa_record.specs.Label.{is_last_at, is_last_label, label_after, label_of, next_label, previous_label}

-- after any label but the last comes one before which it stands
previous-after : (number : ℕ) (side : Color) → is_last_at number side ≡ false → previous_label (label_after number side) ≡ label_of number side
previous-after number Gold other = refl
previous-after number Silver other = by_room (nat_lt number 999999999) other where
  by_room : (room : Bool) → not room ≡ false → previous_label (cond room (label_of (number + 1) Gold) (label_of number Silver)) ≡ label_of number Silver
  by_room true e = let same : number + 1 - 1 ≡ number = omega arith in ap (λ n. label_of n Silver) same
  by_room false e = absurd (true≢false e)

pub previous-next : (label : Label) → is_last_label label ≡ false → previous_label (next_label label) ≡ label
previous-next label other = previous-after label.number label.side other
