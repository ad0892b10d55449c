-- Labels of the lines of a record.
use Rattle.std.specs.Prelude.{◌≡◌, ◌≤◌, ℕ, ◌+◌, ◌-◌, ◌==◌, ◌||◌, Bool, false, not, List, [], ◌∷◌, ◌++◌, Option, None, Some, if◌then◌else◌, nat_lt}
use Rattle.std.specs.Fmt.{decimal}
use Rattle.arimaa_board.specs.declared.piece.Color.{Color}
use Rattle.arimaa_board.specs.declared.piece.Color.TheVariants.{Gold, Silver}
use Rattle.arimaa_record.specs.declared.label.Label.{Label}

-- the side of a label's letter: g and the older w for Gold, s and the older b for Silver
abbrev pub side_of_letter : ℕ → Option Color
side_of_letter c =
    if c == 103 || c == 119 then Some Gold
    else if c == 115 || c == 98 then Some Silver
    else None

-- the bytes are this label: a number from 1 to 999,999,999, and directly after it a letter of the
-- side
pub record IsLabel (bytes : List ℕ) (label : Label) : Type 0 where
  pub letter : ℕ
  pub side : side_of_letter letter ≡ Some label.side
  pub form : bytes ≡ decimal label.number ++ letter ∷ []
  pub least : 1 ≤ label.number
  pub most : label.number ≤ 999999999

-- a label of this number and side
abbrev pub label_of : ℕ → Color → Label
label_of number side = record { number = number; side = side }

-- the label after Ng is Ns, that after Ns is N + 1 with g, and after 999,999,999s it is this one
-- again
abbrev pub label_after : ℕ → Color → Label
label_after number Gold = label_of number Silver
label_after number Silver = if nat_lt number 999999999 then label_of
    (number + 1) Gold else label_of number Silver

-- the label that is due after the setup or turn of a label
abbrev pub next_label : Label → Label
next_label label = label_after label.number label.side

-- the last label of all, 999,999,999s, which stays due after its own turn
abbrev pub is_last_at : ℕ → Color → Bool
is_last_at number Gold = false
is_last_at number Silver = not (nat_lt number 999999999)

-- a label is the last of all
abbrev pub is_last_label : Label → Bool
is_last_label label = is_last_at label.number label.side

-- the label before Ns is Ng, and that before Ng is N - 1 with s
abbrev pub label_before : ℕ → Color → Label
label_before number Gold = label_of (number - 1) Silver
label_before number Silver = label_of number Gold

-- the label of the turn after which a label is due, but for the last label of all
abbrev pub previous_label : Label → Label
previous_label label = label_before label.number label.side

-- the letter that a side is written with in a label
abbrev pub letter_of_side : Color → ℕ
letter_of_side Gold = 103
letter_of_side Silver = 115

-- the written form of a label: its number, and directly after it the letter of its side
abbrev pub text_of_label : Label → List ℕ
text_of_label label = decimal label.number ++ letter_of_side label.side ∷ []
