use Rattle.std.proofs.Common.{[], refl}
use Rattle.std.specs.Prelude.{codes}
use Rattle.arimaa_aei.specs.Written.{with_text}
use Rattle.arimaa_bot.proofs.Passing.{passed_nothing}
use Rattle.arimaa_bot.proofs.outgoing.send_move.Goals as goal

pub returns-in-Err-clause-sent : goal.returns-in-Err-clause-sent
returns-in-Err-clause-sent g c = record { first = []; next = with_text (codes "bestmove") c.args.text.now; later = []; parts = refl; passed = passed_nothing _ }
