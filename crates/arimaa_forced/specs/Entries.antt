-- Entries as they are written down: the turn of each has its removal marks.
use Rattle.std.specs.Prelude.{ℕ, List, [], ◌∷◌, map, Bool, IsTrue}
use Rattle.std.specs.List.{list_all}
use Rattle.arimaa_board.specs.declared.piece.Color.{Color}
use Rattle.arimaa_board.specs.declared.board.Board.{Board}
use Rattle.arimaa_board.specs.declared.position.Step.{Step}
use Rattle.arimaa_board.specs.declared.position.Position.{Position}
use Rattle.arimaa_board.specs.declared.turn.NotedStep.{NotedStep}
use Rattle.arimaa_board.specs.NotedTurns.{noted_turn, noted_marks}
use Rattle.arimaa_model.specs.Moves.{after}
use Rattle.arimaa_model.specs.Marks.{removed_by, marks_right}
use Rattle.arimaa_model.specs.Strategies.{Planned}
use Rattle.arimaa_forced.specs.Acceptance.{Accepts}
use Rattle.arimaa_forced.specs.declared.entry.Entry.{Entry}

-- the entry without its marks
abbrev pub planned_of : Entry → Planned
planned_of e = record { position = e.position; rank = e.rank; steps = noted_turn e.turn }

-- whether the marks of an entry are right on its position
abbrev pub has_right_marks : Entry → Bool
has_right_marks e = marks_right e.position.board (noted_turn e.turn) (noted_marks e.turn)

-- the strategy wins from the root p within n turns, and its marks are right
pub record AcceptsEntries (a : Color) (barred : List Position) (n : ℕ) (s : List Entry)
    (p : Position) : Type 0 where
  pub plain : Accepts a barred n (map planned_of s) p
  pub marked : IsTrue (list_all has_right_marks s)

-- the steps with the right marks
abbrev pub steps_with_marks : Board → List Step → List NotedStep
steps_with_marks b [] = []
steps_with_marks b (s ∷ rest) = record { step = s; mark = removed_by b s } ∷ steps_with_marks
    (after b s) rest

-- the entry with the right marks
abbrev pub entry_with_marks : Planned → Entry
entry_with_marks e = record
    { position = e.position; rank = e.rank; turn = steps_with_marks e.position.board e.steps }
