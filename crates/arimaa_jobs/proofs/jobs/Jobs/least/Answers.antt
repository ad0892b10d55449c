use Rattle.std.proofs.Common.{rules, arith}
use Rattle.arimaa_jobs.proofs.RuleSteps.{looks}
use Rattle.arimaa_jobs.proofs.jobs.Jobs.least.Goals as goal

pub load-requires : goal.load-requires
load-requires c = (search rules, search rules, looks _ _ _ _ _ c.args.seat.now.unspent c.requires.1)

pub overflow_cast-result : goal.overflow_cast-result
overflow_cast-result c = let h = c.load.ensures.2.1 in let k = c.args.self.now.narrow in let e = c.requires.1 in let f = c.args.self.now.keyed in omega (arith, e, f)
