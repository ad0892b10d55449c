use Rattle.arimaa_model.proofs.Home.{lost_is}
use Rattle.arimaa_model.proofs.decision.has_lost_all.Goals as goal

pub returns : goal.returns
returns c = lost_is c.args.board.now c.args.color c.rabbits.result c.at-corner.ensures.size c.rabbits.type_inv c.rabbits.ensures
