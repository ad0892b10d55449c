use Rattle.std.proofs.Common.{◌≡◌, take, drop}
use Rattle.arimaa_board.specs.NotedTurns.{noted_turn, noted_marks}
use Rattle.arimaa_model.specs.Marks.{marks_of}
use Rattle.arimaa_step.proofs.marks.with_marks.Given as goal

abbrev pub invariant-loop-k : goal.invariant-loop-k
invariant-loop-k l = record {
  turn : noted_turn l.noted ≡ l.turn;
  done : take l.k (noted_marks l.noted) ≡ take l.k (marks_of l.p.board l.turn);
  left : marks_of l.board (drop l.k l.step-items) ≡ drop l.k (marks_of l.p.board l.turn);
}
