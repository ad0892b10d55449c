use Rattle.arimaa_cli.specs.Commands.Make.IsMade.{begun, unbegun}
use Rattle.arimaa_cli.proofs.commands.make.make.Goals as goal

pub returns-in-None : goal.returns-in-None
returns-in-None c = rw c.in_ok-text.ensures.items (unbegun (rw c.in-None.is at c.in_ok-after_setups.ensures.none))

pub returns-in_ok-crowded-in-Some : goal.returns-in_ok-crowded-in-Some
returns-in_ok-crowded-in-Some c =
    let found = rw c.in-Some.is at c.in_ok-after_setups.ensures.start in
    begun c.in-Some.start.position c.in-Some.start.due found.0 _ (rw c.in_ok-text.ensures.items at c.in_ok-crowded-in-Some.ensures)
