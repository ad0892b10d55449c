use Rattle.std.proofs.Common.{sym, ◌∙◌}
use Rattle.arimaa_time.proofs.Numbers.{AllDigits-from_test}
use Rattle.arimaa_time.proofs.spans.number.Goals as goal

pub value-requires-clause-digits : goal.value-requires-clause-digits
value-requires-clause-digits c = AllDigits-from_test c.args.text.now (sym c.all_digits.ensures ∙ c.if-all_digits.true)
