use Rattle.std.proofs.Common.{drop}
use Rattle.arimaa_cli.proofs.OptionForms.{never_given, of_one}
use Rattle.arimaa_cli.proofs.options.read_settings_of_one.Goals as goal

pub returns-in_default-clause-none : goal.returns-in_default-clause-none
returns-in_default-clause-none c = λ s given _. never_given c.in_ok-options.options.workers c.in_default.field-0-1 (of_one (drop c.args.from c.args.words.now) c.in_ok-options.options c.in_ok-options.ensures.form s given).1 c.in_default.is-1

pub returns-in_default-2-clause-none : goal.returns-in_default-2-clause-none
returns-in_default-2-clause-none c = λ s given _. never_given c.in_ok-options.options.depth c.in_default.field-0-0 (of_one (drop c.args.from c.args.words.now) c.in_ok-options.options c.in_ok-options.ensures.form s given).0 c.in_default.is-0
