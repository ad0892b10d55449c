use Rattle.std.proofs.Common.{◌+◌, drop, arith, refl}
use Rattle.arimaa_options.specs.declared.option_values.Given.{Given}
use Rattle.arimaa_options.specs.Options.{Give, nothing_given}
use Rattle.arimaa_options.proofs.Lemmas.OptionForms.{get_within, if_none, last_word, next_option, no_half, none_more, nothing_left, one_more, same_more, two_words}
use Rattle.arimaa_options.proofs.option_values.read_given.Goals as goal

pub returns-in_err-number-clause-none : goal.returns-in_err-number-clause-none
returns-in_err-number-clause-none c = if_none c.from_residual-in_err-number.result ((after : Given) → Give nothing_given (drop c.args.from c.args.words.now) after → ⊥) (λ after give.
    no_half c.loop-place.given after (drop c.loop-place.place c.args.words.now) c.in_ok-name.name.now
    (last_word c.args.words.now c.loop-place.place c.in_ok-name.name.now c.in_ok-name.ensures.word (c.in_err-number.ensures.none.0 refl))
    (c.loop-place.invariant.forth after give))

pub returns-in_err-given-clause-none : goal.returns-in_err-given-clause-none
returns-in_err-given-clause-none c = if_none c.from_residual-in_err-given.result ((after : Given) → Give nothing_given (drop c.args.from c.args.words.now) after → ⊥) (λ after give.
    let words = two_words c.args.words.now c.loop-place.place c.in_ok-name.name.now c.in_ok-number.number.now c.in_ok-name.ensures.word c.in_ok-number.ensures.word in
    let more = next_option c.loop-place.given after (drop c.loop-place.place c.args.words.now) (drop (c.loop-place.place + 2) c.args.words.now) c.in_ok-name.name.now c.in_ok-number.number.now words (c.loop-place.invariant.forth after give) in
    c.in_err-given.ensures.none more.0 more.1 more.2)

pub loop-place-preserved : goal.loop-place-preserved
loop-place-preserved c =
    let ws = c.args.words.now in
    let words = two_words ws c.loop-place.place c.in_ok-name.name.now c.in_ok-number.number.now c.in_ok-name.ensures.word c.in_ok-number.ensures.word in
    let option = c.in_ok-given.ensures.form in
    record {
      within = (let below = get_within ws (c.loop-place.place + 1) c.in_ok-number.number.now c.in_ok-number.ensures.word in omega arith);
      forth = λ h give. same_more c.loop-place.given c.in_ok-given.given h (drop c.loop-place.place ws) (drop (c.loop-place.place + 2) ws) c.in_ok-name.name.now c.in_ok-number.number.now option.0 option.1 words option.2 option.3 (c.loop-place.invariant.forth h give);
      back = λ h give. c.loop-place.invariant.back h (one_more c.loop-place.given c.in_ok-given.given h (drop c.loop-place.place ws) (drop (c.loop-place.place + 2) ws) c.in_ok-name.name.now c.in_ok-number.number.now option.0 option.1 words option.2 option.3 give);
    }

pub returns-clause-form : goal.returns-clause-form
returns-clause-form c =
    let end = c.loop-place-test.false in
    let len = c.len.ensures in
    c.loop-place.invariant.back c.loop-place.given (none_more c.loop-place.given (drop c.loop-place.place c.args.words.now) (nothing_left c.args.words.now c.loop-place.place (omega arith)))
