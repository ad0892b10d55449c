use Rattle.std.proofs.Common.{sym}
use Rattle.arimaa_match.proofs.RecordLaws.{accepted_lawful}
use Rattle.arimaa_match.proofs.text.match_text.Goals as goal

pub returns-clause-lawful : goal.returns-clause-lawful
returns-clause-lawful c =
    λ is. accepted_lawful c.args.done.now is
    (rw (sym c.in_ok-text.ensures.text) (c.in_ok-text.ensures.reads_back is.writable))
