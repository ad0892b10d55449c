use Rattle.std.proofs.Common.{sym, ◌∙◌, ap}
use Rattle.arimaa_results.specs.NextStates.{ends_of}
use Rattle.arimaa_results.proofs.StatePairs.{ends_taken, pairs_none}
use Rattle.arimaa_results.proofs.last_steps.LastSteps.advance.Goals as goal

pub returns-in_default-clause-end : goal.returns-in_default-clause-end
returns-in_default-clause-end c = sym c.self.view_is ∙ ap ends_of (pairs_none c.self.inside.state.now c.self.inside.steps c.in_default.ensures.1)

pub returns-clause-next : goal.returns-clause-next
returns-clause-next c = sym c.self.view_is ∙ ends_taken c.self.inside.state.now c.self.inside.steps _ _ c.take_first.new.steps c.in-Some.ensures c.self.invariant c.finish_by.result c.finish_by.ensures
