use Rattle.std.proofs.Common.{drop}
use Rattle.arimaa_cli.proofs.OptionForms.{no_settings}
use Rattle.arimaa_cli.proofs.options.read_settings.Goals as goal

pub returns-in-Some-clause-none : goal.returns-in-Some-clause-none
returns-in-Some-clause-none c = λ s given _. no_settings (drop c.args.from c.args.words.now) c.in_ok-options.options c.in-Some.field-0 c.in_ok-options.ensures.form c.in-Some.is s given
