use Rattle.std.proofs.Common.{◌≡◌, ◌<◌, ℕ, List, length, ap, subst, ◌∙◌}
use Rattle.std.specs.Prelude.{Err, IfSome}
use Rattle.arimaa_outside.specs.declared.source.TheConstants.{INPUT_LIMIT}
use Rattle.arimaa_outside.specs.declared.status.Status.TheVariants.{Words, TooLong}
use Rattle.arimaa_archive.specs.Calls.{IsAnswer}
use Rattle.arimaa_archive.specs.Calls.IsAnswer.{bad_words, too_long}
use Rattle.arimaa_archive.specs.Words.{AreInForm}
use Rattle.arimaa_archive.proofs.Endings.{long_written, reply_written, words_written, written_answers}
use Rattle.arimaa_archive.proofs.calls.run_archive.Goals as goal

pub returns-in_default-clause-answers : goal.returns-in_default-clause-answers
returns-in_default-clause-answers g c =
    let never = c.in_default.ensures.none in
    written_answers c.write_answer.result Words _ _ _ c.write_answer.ensures.ends c.args.words.now
    (words_written c.args.words.now never) _ c.archive_answers_agree.ensures (λ bytes input. bad_words never)

pub returns-in-Err-TooLong-clause-answers : goal.returns-in-Err-TooLong-clause-answers
returns-in-Err-TooLong-clause-answers g c =
    let form : AreInForm c.args.words.now = (c.in-Some.workers, c.in-Some.ensures.form) in
    written_answers c.write_answer-in-Err-TooLong.result TooLong _ _ _ c.write_answer-in-Err-TooLong.ensures.ends c.args.words.now
    (long_written c.args.words.now form) _ c.archive_answers_agree.ensures
    (λ bytes input. too_long form (subst (λ o. IfSome o (λ left. INPUT_LIMIT < length left)) (input form)
    (c.in-Err-TooLong.ensures.too_long (ap Err c.in-Err-TooLong.field-0-is))))

pub returns-clause-answers : goal.returns-clause-answers
returns-clause-answers g c =
    let form : AreInForm c.args.words.now = (c.in-Some.workers, c.in-Some.ensures.form) in
    let ends = rw c.deref-in-Ok-answer.ensures.value at c.write_answer-in-Ok-answer.ensures.ends in
    written_answers c.write_answer-in-Ok-answer.result c.in-Ok-answer.reply.status _ _ _ ends c.args.words.now
    (reply_written c.args.words.now c.in-Ok-answer.reply.status form c.in-Ok-answer.ensures.status) _
    c.archive_answers_agree.ensures
    (λ bytes input.
    let all : c.in-Ok.bytes.items ≡ bytes =
    subst (λ o. IfSome o (λ left. c.in-Ok.bytes.items ≡ left)) (input form) c.in-Ok.ensures.whole in
    subst (λ (b : List ℕ). IsAnswer c.args.words.now b c.in-Ok-answer.reply.status c.in-Ok-answer.reply.text.items)
    (c.deref.ensures.value ∙ all) (c.in-Ok-answer.ensures.answer c.args.words.now form))
