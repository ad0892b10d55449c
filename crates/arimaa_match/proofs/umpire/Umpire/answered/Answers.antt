use Rattle.arimaa_match.proofs.Rulings.{ruling_kept, ruling_out}
use Rattle.arimaa_match.proofs.umpire.Umpire.answered.Goals as goal

pub returns-in-Out : goal.returns-in-Out
returns-in-Out c =
    ruling_out c.args.self.now c.lose.new.self c.args.used c.args.words.now c.lose.result
    c.spend.ensures.answer c.spend.ensures.spent c.in-Out.is c.lose.ensures

pub returns-in-Kept : goal.returns-in-Kept
returns-in-Kept c =
    ruling_kept c.args.self.now c.in_time.new.self c.args.used c.args.words.now c.in_time.result
    c.spend.ensures.answer c.spend.ensures.spent c.in-Kept.is c.in_time.ensures
