use Rattle.std.proofs.Common.{sym, ◌∙◌}
use Rattle.arimaa_results.proofs.next_states.NextStates.advance.Goals as goal

pub returns-in_default : goal.returns-in_default
returns-in_default c = record {
  next = sym c.self.view_is ∙ c.in_default.ensures.pairs;
  end = sym c.self.view_is ∙ c.in_default.ensures.none;
}

pub returns : goal.returns
returns c = record {
  next = sym c.self.view_is ∙ rw c.make.ensures.state c.in-Some.ensures.pairs;
  end = tt;
}
