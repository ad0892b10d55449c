use Rattle.arimaa_record.proofs.ReaderLaws.{start_alone, start_unlabelled}
use Rattle.arimaa_record.proofs.reader.read_start.Goals as goal

pub returns-in_default : goal.returns-in_default
returns-in_default c = λ bytes first. start_alone bytes c.args.text.now first c.in_default.ensures.none

pub returns-in-None : goal.returns-in-None
returns-in-None c = λ bytes first. start_unlabelled bytes c.args.text.now c.in-Some.item.now c.in-Some.rest.now first c.in-Some.ensures.first (λ l h. let k = (c.in-None.ensures l).1 h in cc)
