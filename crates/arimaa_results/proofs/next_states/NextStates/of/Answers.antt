use Rattle.arimaa_results.proofs.StatePairs.{all_pairs}
use Rattle.arimaa_results.proofs.next_states.NextStates.of.Goals as goal

pub returns : goal.returns
returns c = all_pairs c.args.state.now c.accepted.result c.accepted.ensures
