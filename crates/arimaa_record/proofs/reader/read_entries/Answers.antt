use Rattle.std.proofs.Common.{refl}
use Rattle.arimaa_notation.specs.Items.{items_of}
use Rattle.arimaa_record.proofs.ReaderLaws.{no_entries, err_same}
use Rattle.arimaa_record.proofs.reader.read_entries.Goals as goal

pub returns-in-Ok : goal.returns-in-Ok
returns-in-Ok c =
    λ bytes h other. let s = (c.in-Ok.ensures.setup c.in-Ok.setup).0 refl in
    (items_of c.args.text.now, h, (s.entries, s.side, s.rule))

pub returns-in_default : goal.returns-in_default
returns-in_default c =
    λ bytes h other. c.read_steps.ensures bytes h (record {
      others = other;
      no_entries = no_entries (items_of c.args.text.now) c.in-Err.fault c.in-Err.ensures.token
          (λ e. c.in-Err.ensures.no_steps (err_same e)) c.in_default.not-Setup;
    })
