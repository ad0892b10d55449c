-- The labels of the turn lines of a record with one line more.
use Rattle.std.proofs.Common.{◌≡◌, ◌+◌, ℕ, List, [], ◌∷◌, ◌++◌, length, ap, ◌∙◌, arith}
use Rattle.std.proofs.lemmas.List.Sums.{fold-append}
use Rattle.arimaa_board.specs.declared.piece.Color.{Color}
use Rattle.arimaa_board.specs.declared.turn.NotedStep.{NotedStep}
use Rattle.arimaa_board.specs.declared.ending.Word.{Word}
use Rattle.arimaa_board.specs.Setup.{Lineup}
use Rattle.arimaa_record.specs.Label.{label_of}
use Rattle.arimaa_record.specs.declared.line.RecordLine.{RecordLine}
use Rattle.arimaa_record.specs.declared.line.RecordLine.TheVariants as line
use Rattle.arimaa_match.specs.MatchState.{labels_with, turn_labels}

-- a turn line more
pub labels_turn : (lines : List RecordLine) (number : ℕ) (side : Color) (noted : List NotedStep)
    → turn_labels (lines ++ line.Turn number side noted ∷ []) ≡ label_of number side ∷ turn_labels lines
labels_turn lines number side noted = fold-append labels_with [] lines (line.Turn number side noted ∷ [])

-- another line more
pub labels_setup : (lines : List RecordLine) (number : ℕ) (side : Color) (setup : Lineup)
    → turn_labels (lines ++ line.Setup number side setup ∷ []) ≡ turn_labels lines
labels_setup lines number side setup = fold-append labels_with [] lines (line.Setup number side setup ∷ [])

pub labels_bare : (lines : List RecordLine) (number : ℕ) (side : Color)
    → turn_labels (lines ++ line.Bare number side ∷ []) ≡ turn_labels lines
labels_bare lines number side = fold-append labels_with [] lines (line.Bare number side ∷ [])

pub labels_closing : (lines : List RecordLine) (number : ℕ) (side : Color) (word : Word)
    → turn_labels (lines ++ line.Closing number side word ∷ []) ≡ turn_labels lines
labels_closing lines number side word = fold-append labels_with [] lines (line.Closing number side word ∷ [])

-- one turn more is counted
pub turn_counted : (old new : List RecordLine) (number : ℕ) (side : Color) (noted : List NotedStep) (turns : ℕ)
    → new ≡ old ++ line.Turn number side noted ∷ [] → turns ≡ length (turn_labels old) → turns + 1 ≡ length (turn_labels new)
turn_counted old new number side noted turns is count =
    let more = ap (λ (lines : List RecordLine). length (turn_labels lines)) is ∙ ap length (labels_turn old number side noted) in
    omega (arith, more, count)
