use Rattle.std.proofs.Common.{ap, ◌∙◌}
use Rattle.arimaa_aei.specs.Written.{with_text}
use Rattle.arimaa_aei.proofs.AnswersBack.{line_said_back}
use Rattle.arimaa_aei.proofs.answer_text.answer_bytes.Goals as goal

pub returns-clause-reads_back : goal.returns-clause-reads_back
returns-clause-reads_back c = line_said_back c.word_with_text.result (λ line. line.items) _ _ (ap (λ word. with_text word c.parts-word.result.1.now) c.answer_word_text.ensures ∙ c.parts-word.ensures) c.word_with_text.ensures
