use Rattle.std.proofs.Common.{◌∙◌, ap}
use Rattle.arimaa_refute.proofs.PlaceLaws.{is_early, early-stands}
use Rattle.arimaa_refute.proofs.escapes.Escapes.stands_before.Goals as goal

pub returns-in-None : goal.returns-in-None
returns-in-None c = ap (is_early c.args.count) c.in-None.ensures ∙ early-stands c.args.self.now c.args.p.now c.args.count

pub returns-in-Some : goal.returns-in-Some
returns-in-Some c = ap (is_early c.args.count) c.in-Some.ensures ∙ early-stands c.args.self.now c.args.p.now c.args.count
