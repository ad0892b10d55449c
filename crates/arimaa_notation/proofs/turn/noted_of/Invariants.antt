use Rattle.std.proofs.Common.{◌≡◌, take, length}
use Rattle.arimaa_board.specs.NotedTurns.{noted_turn, noted_marks}
use Rattle.arimaa_notation.proofs.turn.noted_of.Given as goal

abbrev pub invariant-loop-noted : goal.invariant-loop-noted
invariant-loop-noted l = l.turn ≡ noted_turn (take l.noted-index l.steps)

abbrev pub invariant-loop-place : goal.invariant-loop-place
invariant-loop-place l =
    (noted_turn l.noted_turn ≡ noted_turn l.steps) × (length l.noted_turn ≡ length l.steps) × (take l.place (noted_marks l.noted_turn) ≡ noted_marks (take l.place l.steps))
