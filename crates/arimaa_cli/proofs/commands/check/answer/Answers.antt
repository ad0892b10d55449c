use Rattle.std.proofs.Common.{subst}
use Rattle.std.specs.Option.{option_map}
use Rattle.arimaa_cli.specs.Commands.Check.{IsStrategyAnswer, strategy_word}
use Rattle.arimaa_cli.specs.Records.{IsRecord}
use Rattle.arimaa_cli.specs.Records.IsRecordAnswer.{bad}
use Rattle.arimaa_cli.proofs.CheckAnswers.{about_input}
use Rattle.arimaa_cli.proofs.commands.check.answer.Goals as goal

pub returns-in-Bad : goal.returns-in-Bad
returns-in-Bad c = record {
  front = c.parts_of-parts.result.front.now;
  text = option_map (λ x. x.now) c.parts_of-parts.result.text;
  made = c.parts_of-parts.ensures.made;
  told = bad c.in-Bad.text (subst (IsRecord c.parts_of-parts.result.front.now) c.in-Bad.is c.in_ok-text.ensures);
}

pub returns-in-Lawful : goal.returns-in-Lawful
returns-in-Lawful c =
    about_input strategy_word (λ lines text game. IsStrategyAnswer c.args.asked.now game lines text) c.args.bytes.now c.parts_of-parts.result.front.now (option_map (λ x. x.now) c.parts_of-parts.result.text) c.parts_of-parts.result.line
    c.parts_of-parts.ensures.made c.parts_of-parts.ensures.counted c.in-Lawful.game
    (subst (IsRecord c.parts_of-parts.result.front.now) c.in-Lawful.is c.in_ok-text.ensures) c.strategy_answer.result c.strategy_answer.ensures
