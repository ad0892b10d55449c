-- Entries with their right marks.
use Rattle.std.proofs.Common.{◌≡◌, ℕ, List, [], ◌∷◌, map, true, refl, ap}
use Rattle.std.specs.List.{list_all}
use Rattle.std.proofs.lemmas.Bool.{and_from}
use Rattle.arimaa_board.specs.declared.board.Board.{Board}
use Rattle.arimaa_board.specs.declared.position.Step.{Step}
use Rattle.arimaa_board.specs.NotedTurns.{noted_turn, noted_marks}
use Rattle.arimaa_model.specs.Moves.{after}
use Rattle.arimaa_model.specs.Marks.{removed_by, marks_right}
use Rattle.arimaa_model.specs.Strategies.{Planned}
use Rattle.arimaa_model.proofs.Lemmas.MarkLaws.{same_mark-itself}
use Rattle.arimaa_forced.specs.Entries.{planned_of, has_right_marks, steps_with_marks, entry_with_marks}

steps-same : (b : Board) (steps : List Step) → noted_turn (steps_with_marks b steps) ≡ steps
steps-same b [] = refl
steps-same b (s ∷ rest) = ap (λ l. s ∷ l) (steps-same (after b s) rest)

marks-own : (b : Board) (steps : List Step) → marks_right b (noted_turn (steps_with_marks b steps)) (noted_marks (steps_with_marks b steps)) ≡ true
unfolding marks_right
marks-own b [] = refl
marks-own b (s ∷ rest) = and_from _ _ (same_mark-itself (removed_by b s)) (marks-own (after b s) rest)

pub planned-written : (s : List Planned) → map planned_of (map entry_with_marks s) ≡ s
planned-written [] = refl
planned-written (e ∷ s) = λ i. record { position = e.position; rank = e.rank; steps = steps-same e.position.board e.steps i } ∷ planned-written s i

pub written-marked : (s : List Planned) → list_all has_right_marks (map entry_with_marks s) ≡ true
written-marked [] = refl
written-marked (e ∷ s) = and_from _ _ (marks-own e.position.board e.steps) (written-marked s)
