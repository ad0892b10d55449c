use Rattle.std.proofs.Common.{sym, ◌∙◌, ap}
use Rattle.arimaa_results.specs.NextStates.{last_of}
use Rattle.arimaa_results.proofs.next_states.NextStates.advance_last.Goals as goal

pub returns-in_default : goal.returns-in_default
returns-in_default c = record {
  next = ap last_of (sym c.self.view_is ∙ c.in_default.ensures.pairs);
  end = sym c.self.view_is ∙ c.in_default.ensures.none;
}

pub returns : goal.returns
returns c = record {
  next = rw c.finish_after.ensures (ap last_of (sym c.self.view_is ∙ c.in-Some.ensures.pairs));
  end = tt;
}
