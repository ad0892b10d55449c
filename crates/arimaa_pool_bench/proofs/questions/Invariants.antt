use Rattle.arimaa_table.specs.Passes.{IsPassOf}
use Rattle.arimaa_pool_bench.proofs.questions.Given as goal

-- the pass stays one of the table
abbrev pub invariant-loop-turns : goal.invariant-loop-turns
invariant-loop-turns l = IsPassOf l.table l.pass
