use Rattle.std.proofs.Common.{◌≡◌, drop}
use Rattle.arimaa_step.specs.MarkRules.{marks_fit}
use Rattle.arimaa_step.proofs.marks.all_fit.Given as goal

abbrev pub invariant-loop-noted : goal.invariant-loop-noted
invariant-loop-noted l = marks_fit l.rule l.board (drop l.noted-index l.steps) ≡ marks_fit l.rule l.fn.board l.steps
