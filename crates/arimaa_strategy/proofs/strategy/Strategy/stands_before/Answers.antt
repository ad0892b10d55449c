use Rattle.std.proofs.Common.{◌∙◌, sym, ap}
use Rattle.arimaa_strategy.proofs.Lemmas.PlaceLaws.{found_before, is_before}
use Rattle.arimaa_strategy.proofs.strategy.Strategy.stands_before.Goals as goal

pub returns-in-None : goal.returns-in-None
returns-in-None c = ap (is_before c.args.count) c.in-None.ensures.place ∙ sym (found_before c.args.self.now c.args.p.now c.args.count)

pub returns-in-Some : goal.returns-in-Some
returns-in-Some c = ap (is_before c.args.count) c.in-Some.ensures.place ∙ sym (found_before c.args.self.now c.args.p.now c.args.count)
