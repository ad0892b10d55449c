use Rattle.arimaa_model.specs.Results.{next}
use Rattle.arimaa_refute.proofs.Waiting.{no-wait, wait-now}
use Rattle.arimaa_refute.proofs.verifier.can_wait.Goals as goal

pub returns-then-turns-gt0 : goal.returns-then-turns-gt0
returns-then-turns-gt0 c = no-wait c.args.turns (next c.args.barred.now c.args.q.now) c.if-turns-gt0.true

pub returns : goal.returns
returns c = wait-now c.args.turns (next c.args.barred.now c.args.q.now) c.any_result.result c.if-turns-gt0.false c.any_result.ensures
