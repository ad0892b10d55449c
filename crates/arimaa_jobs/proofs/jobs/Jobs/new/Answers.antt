use Rattle.arimaa_jobs.proofs.RuleSteps.{starts}
use Rattle.arimaa_jobs.proofs.jobs.Jobs.new.Goals as goal

pub of_words-requires : goal.of_words-requires
of_words-requires c = starts _ _
