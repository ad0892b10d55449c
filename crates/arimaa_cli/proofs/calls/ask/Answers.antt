use Rattle.arimaa_cli.specs.Commands.IsAnswer.{bad_words}
use Rattle.arimaa_cli.proofs.Ends.{asked_read, asks_read, found_for, refused_read}
use Rattle.arimaa_cli.proofs.calls.ask.Goals as goal

pub returns-in-None-clause-refused : goal.returns-in-None-clause-refused
returns-in-None-clause-refused g c = λ bytes input fault memory. bad_words c.in-None.ensures.none

pub returns-in-Some-clause-asks : goal.returns-in-Some-clause-asks
returns-in-Some-clause-asks g c = asks_read c.args.call c.args.words.now c.in-Some.command c.in-Some.ensures.form c.read_for.result c.read_for.ensures.command

pub returns-in-Some-clause-asked : goal.returns-in-Some-clause-asked
returns-in-Some-clause-asked g c = λ bytes input.
    asked_read c.args.call c.args.words.now _ bytes c.in-Some.command c.in-Some.ensures.form input c.read_for.result c.read_for.ensures.command c.read_for.ensures.about c.read_for.ensures.within

pub returns-in-Some-clause-refused : goal.returns-in-Some-clause-refused
returns-in-Some-clause-refused g c = λ bytes input.
    refused_read c.args.call c.args.words.now _ _ bytes c.in-Some.command _ _ c.in-Some.ensures.form input c.read_for.result c.read_for.ensures.finds

pub returns-in-Some-clause-finds : goal.returns-in-Some-clause-finds
returns-in-Some-clause-finds g c = found_for c.args.call c.args.words.now c.in-Some.command c.in-Some.ensures.form _ _ _ _ _ c.read_for.ensures.finds
