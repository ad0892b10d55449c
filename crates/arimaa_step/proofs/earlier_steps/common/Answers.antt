use Rattle.arimaa_board.proofs.Lemmas.MaskLaws.{and_mask}
use Rattle.arimaa_step.proofs.earlier_steps.common.Goals as goal

pub returns : goal.returns
returns c test passing is other = and_mask test passing _ _ is other
