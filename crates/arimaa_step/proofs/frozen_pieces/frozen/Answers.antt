use Rattle.arimaa_model.proofs.Lemmas.RelatedMoves.{frozen-Decides}
use Rattle.arimaa_step.proofs.frozen_pieces.frozen.Goals as goal

pub returns-clause-rule : goal.returns-clause-rule
returns-clause-rule c = rw c.frozen.ensures (frozen-Decides c.args.board.now c.args.square)
