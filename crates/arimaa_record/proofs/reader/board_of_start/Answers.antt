use Rattle.std.proofs.Common.{refl}
use Rattle.arimaa_record.proofs.reader.board_of_start.Goals as goal

pub returns-in-Ok : goal.returns-in-Ok
returns-in-Ok c = λ bytes h. (c.args.text.now, h, (c.in-Ok.ensures.reads c.in-Ok.board).0 refl)
