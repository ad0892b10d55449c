use Rattle.std.proofs.Common.{◌∙◌, ◌-◌, drop, sym, ap, subst, arith}
use Rattle.arimaa_time.specs.Fields.{IsControl}
use Rattle.arimaa_meet.proofs.WordForms.{first_word, later_count, later_programs}
use Rattle.arimaa_meet.proofs.words.read_meet.Goals as goal

pub returns-in-Ok-clause-form : goal.returns-in-Ok-clause-form
returns-in-Ok-clause-form c =
    let words = c.args.words.now in
    let text = c.in_ok-text.text.now in
    let first = c.in_ok-text.ensures.word in
    record {
      text = text;
      programs = drop 1 words;
      form = first_word words text first;
      control = subst (λ bytes. IsControl bytes c.in-Ok.control) c.as_bytes.ensures.value c.in-Ok.ensures.read;
      count = later_count words text first ∙ ap (λ n. n - 1) (sym c.len-programs.ensures);
      fewest = omega (arith, c.if-programs-lt-FEWEST_PROGRAMS.false);
      most = omega (arith, c.if-programs-gt-MOST_PROGRAMS.false);
      plain = later_programs words (c.are_programs.ensures.0 c.if-not-are_programs.false);
    }
