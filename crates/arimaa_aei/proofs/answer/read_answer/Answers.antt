use Rattle.std.proofs.Common.{ap, sym}
use Rattle.arimaa_notation.specs.Items.{after_word, without_outer_blanks}
use Rattle.arimaa_aei.specs.Answers.{said_by, speech_of_line}
use Rattle.arimaa_aei.specs.Words.{answer_word_of}
use Rattle.arimaa_aei.proofs.answer.read_answer.Goals as goal

pub returns-in_default : goal.returns-in_default
unfolding speech_of_line answer_word_of
returns-in_default c =
    sym (ap (λ word. said_by (answer_word_of word) (without_outer_blanks (after_word c.args.line.now))) c.in_default.ensures.no_word)
