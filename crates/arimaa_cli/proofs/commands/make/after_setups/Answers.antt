use Rattle.std.proofs.Common.{sym, subst}
use Rattle.arimaa_judge.specs.Judgement.{HasFitBoards, IsJudged}
use Rattle.arimaa_cli.specs.declared.commands.make.TheConstants.{SETUPS}
use Rattle.arimaa_cli.specs.Commands.Make.{IsStart}
use Rattle.arimaa_cli.proofs.Fitting.{last_fit}
use Rattle.arimaa_cli.proofs.commands.make.after_setups.Goals as goal

pub returns-clause-start : goal.returns-clause-start
returns-clause-start c =
    let fit = subst HasFitBoards c.in-Lawful.is c.in_ok-judge.ensures.fit in
    let start : IsStart c.in-Some.position c.in-Lawful.next = record {
      history = c.in-Lawful.history;
      turns = c.in-Lawful.turns;
      ended = c.in-Lawful.ending;
      judged = subst (IsJudged SETUPS.now) c.in-Lawful.is c.in_ok-judge.ensures.judged;
      last = sym c.in-Some.ensures;
    } in
    (start, last_fit c.in-Lawful.history fit c.in-Some.position (sym c.in-Some.ensures))
