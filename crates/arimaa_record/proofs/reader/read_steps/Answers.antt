use Rattle.arimaa_notation.specs.Items.{items_of}
use Rattle.arimaa_record.proofs.ReaderLaws.{no_content, err_same}
use Rattle.arimaa_record.proofs.reader.read_steps.Goals as goal

pub returns-in_default : goal.returns-in_default
returns-in_default c =
    λ bytes h other. no_content bytes c.args.label (items_of c.args.text.now) c.in-Err.fault c.in-Err.ensures.token c.in_default.not-Steps (λ e. c.in-Err.ensures.no_setup (err_same e)) h other
