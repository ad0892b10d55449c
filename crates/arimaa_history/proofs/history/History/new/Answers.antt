use Rattle.arimaa_history.proofs.Counting.{kept-empty}
use Rattle.arimaa_history.proofs.history.History.new.Goals as goal

pub invariant_of-result : goal.invariant_of-result
invariant_of-result c = kept-empty _ _ _ _ c.new.ensures.items c.new-4.ensures c.new-2.ensures.empty c.new-3.ensures.empty
