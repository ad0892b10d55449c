use Rattle.arimaa_step.proofs.Lemmas.AnswerLaws.{ok_parts, moves_fit}
use Rattle.arimaa_step.proofs.state.TurnState.made_alone.Goals as goal

pub ends_move-ends-requires : goal.ends_move-ends-requires
ends_move-ends-requires c = moves_fit c.args.self.now c.args.step.now (ok_parts c.args.self.now c.args.step.now c.requires).1
