use Rattle.std.proofs.Common.{sym, subst, append_assoc}
use Rattle.arimaa_time.specs.Fields.{IsControl}
use Rattle.arimaa_time.proofs.Written.{text_of-IsControl}
use Rattle.arimaa_time.proofs.writer.control_text.Goals as goal

pub returns-clause-text : goal.returns-clause-text
returns-clause-text c =
    rw (
      c.push_time-4.ensures.bytes,
      c.push_str-5.ensures.bytes,
      c.push_game.ensures.bytes,
      c.push_str-4.ensures.bytes,
      c.push_time-3.ensures.bytes,
      c.push_str-3.ensures.bytes,
      c.push_percent.ensures.bytes,
      c.push_str-2.ensures.bytes,
      c.push_time-2.ensures.bytes,
      c.push_str.ensures.bytes,
      c.push_time.ensures.bytes,
      c.new-text.ensures,
    ) (simp append_assoc)

pub returns-clause-read_back : goal.returns-clause-read_back
returns-clause-read_back c = λ whole. subst (λ bytes. IsControl bytes c.args.control.now) (sym (returns-clause-text c)) (text_of-IsControl c.args.control.now whole)
