use Rattle.arimaa_results.proofs.Walked.{found_from-last}
use Rattle.arimaa_results.proofs.first_wanted.walk_last.Goals as goal

pub loop-step-init : goal.loop-step-init
loop-step-init g c = found_from-last (g.W.Wanted.passes c.args.wanted.now) c.args.state.now c.of-states.result c.of-states.ensures
