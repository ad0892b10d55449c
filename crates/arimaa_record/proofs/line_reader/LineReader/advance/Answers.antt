use Rattle.std.proofs.Common.{◌≡◌, ◌∙◌, ap, length, rules, vec_len}
use Rattle.std.specs.Prelude.{◌==◌}
use Rattle.arimaa_record.proofs.LineAnswers.{advances-closed, advances-open}
use Rattle.arimaa_record.proofs.line_reader.LineReader.advance.Goals as goal

pub returns-then-not-ended-clause-advances : goal.returns-then-not-ended-clause-advances
returns-then-not-ended-clause-advances g c =
    advances-open c.args.self.now c.gather.new.self _ _ c.in-Ok.ended c.if-not-ended.true c.in-Ok.ensures.gathers (search rules) (search rules)

pub returns-else-not-ended-clause-advances : goal.returns-else-not-ended-clause-advances
returns-else-not-ended-clause-advances g c =
    let size : vec_len c.gather.new.self.line ≡ length c.gather.new.self.line.items = search rules in
    let empty = c.is_empty.ensures ∙ ap (λ n. n == 0) size in
    advances-closed c.args.self.now c.gather.new.self _ _ c.in-Ok.ended c.is_empty.result c.if-not-ended.false empty c.in-Ok.ensures.gathers (search rules) (search rules)
