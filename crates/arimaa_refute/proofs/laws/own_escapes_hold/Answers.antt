use Rattle.arimaa_refute.proofs.OwnEscapesHold.{own-holds}
use Rattle.arimaa_refute.proofs.laws.own_escapes_hold.Goals as goal

pub returns : goal.returns
returns c = λ a barred p n small lost. own-holds a barred n p small lost
