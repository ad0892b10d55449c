use Rattle.arimaa_cli.proofs.Ends.{answer_found}
use Rattle.arimaa_cli.proofs.calls.find.Goals as goal

pub command_answer-requires-after_bounds : goal.command_answer-requires-after_bounds
command_answer-requires-after_bounds g c κs within = c.in-Ok.ensures.asks.in_form.in_range

pub returns-in_ok-command_answer-in-Ok-clause-answer : goal.returns-in_ok-command_answer-in-Ok-clause-answer
returns-in_ok-command_answer-in-Ok-clause-answer g c = λ bytes input fault memory.
    answer_found c.args.call c.args.words.now bytes c.in-Ok.asking (c.in-Ok.ensures.asked bytes input) c.in_ok-command_answer-in-Ok.field-0 c.in_ok-command_answer-in-Ok.ensures
