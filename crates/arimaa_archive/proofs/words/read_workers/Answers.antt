use Rattle.arimaa_archive.proofs.WordForms.{counted}
use Rattle.arimaa_archive.proofs.words.read_workers.Goals as goal

pub returns-clause-form : goal.returns-clause-form
returns-clause-form c =
    counted c.args.words.now c.in_ok-word.word.now c.read_count.result (c.have_option.ensures.0 c.if-not-have_option.false)
    c.in_ok-word.ensures.word c.read_count.ensures
