use Rattle.arimaa_match.proofs.Parts.{went_nowhere}
use Rattle.arimaa_match.proofs.Turns.{ruled_on}
use Rattle.arimaa_match.proofs.play.rule_on.Goals as goal

pub returns-in-Err-clause-went : goal.returns-in-Err-clause-went
returns-in-Err-clause-went g c = λ given. went_nowhere _

pub returns-in-Ok-clause-went : goal.returns-in-Ok-clause-went
returns-in-Ok-clause-went g c =
    λ given. ruled_on c.args.umpire.now c.args.used c.words.ensures (c.in-Ok.ensures)
    (c.after_verdict.ensures.went given)
