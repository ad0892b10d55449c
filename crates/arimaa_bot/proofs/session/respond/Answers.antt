use Rattle.std.proofs.Common.{sym}
use Rattle.arimaa_bot.proofs.FitBoards.{read_fit}
use Rattle.arimaa_bot.proofs.session.respond.Goals as goal

pub follow-requires-clause-fit : goal.follow-requires-clause-fit
follow-requires-clause-fit g c κs within = read_fit c.args.line.now c.in-Ok.command (sym c.in-Ok.ensures)
