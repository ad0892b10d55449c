use Rattle.std.proofs.Common.{◌≡◌, ◌+◌, ◌-◌, ◌≤◌}
use Rattle.arimaa_table.specs.Passes.{setting_of, IsPassOf}
use Rattle.arimaa_pool.proofs.crew.Crew.new.Given as goal

abbrev pub invariant-loop-made : goal.invariant-loop-made
invariant-loop-made l = record {
  pass : IsPassOf l.table l.pass;
  terms : l.crew.terms ≡ record { attacker = (setting_of l.table).attacker; barred = (setting_of l.table).barred; budget = l.settings.budget; room = l.settings.room };
  count : l.crew.count + 1 ≡ l.made;
  within : l.made ≤ l.settings.workers;
}

abbrev pub decreases-loop-made : goal.decreases-loop-made
decreases-loop-made l = l.settings.workers - l.made
