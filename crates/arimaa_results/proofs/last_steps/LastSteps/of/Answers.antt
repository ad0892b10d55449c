use Rattle.arimaa_results.proofs.Ends.{brings-ending}
use Rattle.arimaa_results.proofs.last_steps.LastSteps.of.Goals as goal

pub returns : goal.returns
returns c = λ barred. brings-ending barred c.args.state.now c.ending.result c.ending.ensures
