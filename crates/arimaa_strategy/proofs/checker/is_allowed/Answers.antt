use Rattle.std.proofs.Common.{◌∙◌, ap, not}
use Rattle.arimaa_board.specs.NotedTurns.{noted_turn}
use Rattle.arimaa_model.proofs.Lemmas.Listed.{next-allowed}
use Rattle.arimaa_strategy.proofs.checker.is_allowed.Goals as goal

pub returns : goal.returns
returns c =
    ap not c.contains.ensures ∙ next-allowed c.args.barred.now c.args.entry.now.position c.args.reached.now (noted_turn c.args.entry.now.turn) c.at-corner.ensures.size c.requires
