use Rattle.std.proofs.Common.{◌∷◌, ◌++◌, ◌∙◌, ap, length}
use Rattle.std.proofs.lemmas.Result.{on_ok_weaker}
use Rattle.std.specs.Prelude.{◌==◌}
use Rattle.arimaa_record.proofs.WrittenBack.{turn_spaced}
use Rattle.arimaa_record.proofs.writer.push_turn.Goals as goal

pub returns-clause-text : goal.returns-clause-text
returns-clause-text c =
    on_ok_weaker c.push_part.result
    (λ e. e ∙ (ap (λ x. c.args.text.now.items ++ 32 ∷ x) (c.as_bytes.ensures.value ∙ (c.deref.ensures.0 ∙ c.turn_text.ensures.text))
    ∙ ap (λ x. c.args.text.now.items ++ x) (turn_spaced c.args.noted.now c.is_empty.result (c.is_empty.ensures ∙ ap (λ x. length x == 0) c.steps.ensures.value) c.if-is_empty.false)))
    c.push_part.ensures
