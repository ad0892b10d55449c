use Rattle.std.proofs.Common.{ℕ, true≢false, sym, ◌∙◌}
use Rattle.arimaa_notation.proofs.Lemmas.Numbers.{parsed, unparsed, unread, no_text, no_plain_start, number_read}
use Rattle.arimaa_notation.proofs.number.read_number.Goals as goal

pub returns-then-not-has_plain_start-clause-number : goal.returns-then-not-has_plain_start-clause-number
returns-then-not-has_plain_start-clause-number c = λ n. unread c.args.bytes.now n (no_plain_start c.args.bytes.now (λ plain. true≢false (sym (c.has_plain_start.ensures.1 plain) ∙ c.if-not-has_plain_start.true)) n)

pub returns-in-Ok-parse-clause-number : goal.returns-in-Ok-parse-clause-number
returns-in-Ok-parse-clause-number c = λ n. parsed ℕ c.args.bytes.now c.in-Ok.text.now c.in-Ok.ensures.cases.0 n c.in-Ok-parse.number (c.has_plain_start.ensures.0 c.if-not-has_plain_start.false) c.in-Ok-parse.ensures.value.0

pub returns-in-Err-parse-clause-number : goal.returns-in-Err-parse-clause-number
returns-in-Err-parse-clause-number c = λ n. unparsed _ c.args.bytes.now c.in-Ok.text.now c.in-Ok.ensures.cases.0 n c.in-Err-parse.field-0 c.in-Err-parse.ensures.value.0

pub returns-in-Err-clause-number : goal.returns-in-Err-clause-number
returns-in-Err-clause-number c = λ n. unread c.args.bytes.now n (no_text c.args.bytes.now c.in-Err.ensures.cases.0 n)

pub returns-then-not-has_plain_start-clause-value : goal.returns-then-not-has_plain_start-clause-value
returns-then-not-has_plain_start-clause-value c = number_read c.args.bytes.now _ (returns-then-not-has_plain_start-clause-number c)

pub returns-in-Ok-parse-clause-value : goal.returns-in-Ok-parse-clause-value
returns-in-Ok-parse-clause-value c = number_read c.args.bytes.now _ (returns-in-Ok-parse-clause-number c)

pub returns-in-Err-parse-clause-value : goal.returns-in-Err-parse-clause-value
returns-in-Err-parse-clause-value c = number_read c.args.bytes.now _ (returns-in-Err-parse-clause-number c)

pub returns-in-Err-clause-value : goal.returns-in-Err-clause-value
returns-in-Err-clause-value c = number_read c.args.bytes.now _ (returns-in-Err-clause-number c)
