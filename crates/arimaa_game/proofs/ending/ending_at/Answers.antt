use Rattle.std.proofs.Common.{◌∙◌}
use Rattle.arimaa_game.proofs.Lemmas.Endings.{ending_at-decided, ending_at-undecided}
use Rattle.arimaa_game.proofs.ending.ending_at.Goals as goal

pub returns-in-Some : goal.returns-in-Some
returns-in-Some c = ending_at-decided c.args.history.now c.args.p.now c.in-Some.ending c.in-Some.ensures

pub returns-in-None : goal.returns-in-None
returns-in-None c = c.stuck_ending.ensures ∙ ending_at-undecided c.args.history.now c.args.p.now c.in-None.ensures
