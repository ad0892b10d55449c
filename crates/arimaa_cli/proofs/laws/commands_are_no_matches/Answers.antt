use Rattle.arimaa_cli.proofs.Agreeing.{no_match}
use Rattle.arimaa_cli.proofs.laws.commands_are_no_matches.Goals as goal

pub returns : goal.returns
returns c = no_match
