use Rattle.std.proofs.Common.{◌∙◌}
use Rattle.arimaa_judge.proofs.Lemmas.TurnLaws.{stood}
use Rattle.arimaa_judge.proofs.record_state.take_back.Goals as goal

pub returns-clause-stood : goal.returns-clause-stood
returns-clause-stood c =
    c.is_ok.ensures.value ∙ stood c.args.game.now c.take_back.result c.requires.under_way.unclosed c.requires.running c.take_back.ensures.due c.take_back.ensures.fault
