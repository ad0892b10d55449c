use Rattle.std.proofs.Common.{sym}
use Rattle.arimaa_cli.specs.Commands.Show.IsShowAnswer.{no_position, shown}
use Rattle.arimaa_cli.proofs.commands.show.answer.Goals as goal

pub returns-in_ok-from_slice-in-None : goal.returns-in_ok-from_slice-in-None
returns-in_ok-from_slice-in-None c = rw (c.new.ensures, c.in_ok-from_slice-in-None.ensures.items) (no_position (sym c.in-None.ensures))

pub returns-in_ok-text-in-Some : goal.returns-in_ok-text-in-Some
returns-in_ok-text-in-Some c = rw (c.new-in-Some.ensures, c.in_ok-text-in-Some.ensures) (shown c.in-Some.position (sym c.in-Some.ensures))
