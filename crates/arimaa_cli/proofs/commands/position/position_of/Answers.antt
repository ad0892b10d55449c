use Rattle.std.proofs.Common.{sym}
use Rattle.arimaa_cli.specs.Positions.IsUnasked.{closed, no_position}
use Rattle.arimaa_cli.proofs.commands.position.position_of.Goals as goal

pub returns-in-Some-clause-unasked : goal.returns-in-Some-clause-unasked
returns-in-Some-clause-unasked c = rw c.ended_text.ensures (closed c.in-Some.word (sym c.in-Some.ensures))

pub returns-in-None-clause-unasked : goal.returns-in-None-clause-unasked
returns-in-None-clause-unasked c = no_position (sym c.in_default.ensures) (sym c.in-None.ensures)

pub returns-in-Some-last-clause-open_yet : goal.returns-in-Some-last-clause-open_yet
returns-in-Some-last-clause-open_yet c = record { open_yet = sym c.in_default.ensures; last = sym c.in-Some-last.ensures }
