use Rattle.std.proofs.Common.{◌≡◌, false, rules}
use Rattle.arimaa_history.specs.Counts.{has_key}
use Rattle.arimaa_history.proofs.Counting.{keys-again}
use Rattle.arimaa_history.proofs.history.add_new.Goals as goal

pub returns-in-Err-clause-kept : goal.returns-in-Err-clause-kept
returns-in-Err-clause-kept c =
    let none : has_key c.args.keys.now c.args.key ≡ false = search rules in
    keys-again c.args.keys.now c.insert.new.self c.remove.new.self c.args.key none c.in_ok-insert.ensures.updates.0 c.remove.ensures.updates.0
