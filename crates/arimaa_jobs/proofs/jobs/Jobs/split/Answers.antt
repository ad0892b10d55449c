use Rattle.std.proofs.Common.{rules}
use Rattle.arimaa_jobs.proofs.RuleSteps.{splits}
use Rattle.arimaa_jobs.proofs.jobs.Jobs.split.Goals as goal

pub split_seat-new-requires : goal.split_seat-new-requires
split_seat-new-requires c = (search rules, search rules, splits _ _ _ c.args.seat.now.seat.me.0 c.requires.enough.1 c.requires.enough.0)
