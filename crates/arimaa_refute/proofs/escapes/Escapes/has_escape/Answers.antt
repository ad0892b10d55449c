use Rattle.std.proofs.Common.{◌∙◌, ap}
use Rattle.arimaa_refute.proofs.PlaceLaws.{is_deep, deep-has}
use Rattle.arimaa_refute.proofs.escapes.Escapes.has_escape.Goals as goal

pub returns-in-None : goal.returns-in-None
returns-in-None c = ap (is_deep c.args.depth) c.in-None.ensures ∙ deep-has c.args.self.now c.args.p.now c.args.depth

pub returns-in-Some : goal.returns-in-Some
returns-in-Some c = ap (is_deep c.args.depth) c.in-Some.ensures ∙ deep-has c.args.self.now c.args.p.now c.args.depth
