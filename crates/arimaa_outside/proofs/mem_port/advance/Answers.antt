use Rattle.std.proofs.Common.{sym}
use Rattle.std.proofs.lemmas.List.{drop-drop}
use Rattle.arimaa_outside.proofs.mem_port.advance.Goals as goal

pub returns-then-at-script-clause-next : goal.returns-then-at-script-clause-next
returns-then-at-script-clause-next c = sym (drop-drop 1 c.args.at.now c.args.script.now)
