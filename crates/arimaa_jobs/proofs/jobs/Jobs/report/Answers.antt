use Rattle.std.proofs.Common.{rules}
use Rattle.arimaa_jobs.proofs.RuleSteps.{lowers}
use Rattle.arimaa_jobs.proofs.jobs.Jobs.report.Goals as goal

pub fetch_min-requires : goal.fetch_min-requires
fetch_min-requires c = (search rules, search rules, lowers _ _ _ _ _ _ c.args.seat.now.unspent c.requires.job.0 c.requires.job.1)
