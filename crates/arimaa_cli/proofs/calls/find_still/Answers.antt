use Rattle.arimaa_cli.specs.declared.commands.Call.TheVariants.{RunStill}
use Rattle.arimaa_cli.specs.Commands.{command_of, is_prove}
use Rattle.arimaa_cli.proofs.Ends.{answer_found, kept_out}
use Rattle.arimaa_cli.proofs.calls.find_still.Goals as goal

pub still_answer-requires : goal.still_answer-requires
still_answer-requires g c = record { still = kept_out (is_prove (command_of c.in-Ok.asking)) c.in-Ok.ensures.asks.served; in_range = c.in-Ok.ensures.asks.in_form.in_range }

pub returns-in_ok-still_answer-in-Ok-clause-answer : goal.returns-in_ok-still_answer-in-Ok-clause-answer
returns-in_ok-still_answer-in-Ok-clause-answer g c = λ bytes input fault memory.
    answer_found RunStill c.args.words.now bytes c.in-Ok.asking (c.in-Ok.ensures.asked bytes input) c.in_ok-still_answer-in-Ok.field-0 c.in_ok-still_answer-in-Ok.ensures
