use Rattle.std.proofs.Common.{ℕ, List, ◌<◌, ◌≤◌, get_or}
use Rattle.arimaa_meet.specs.Words.{IsProgram}
use Rattle.arimaa_meet.proofs.words.are_programs.Given as goal

-- the words so far may name programs
abbrev pub invariant-loop-place : goal.invariant-loop-place
invariant-loop-place l = (k : ℕ) (d : List ℕ) → 1 ≤ k → k < l.place → IsProgram (get_or l.words k d)
