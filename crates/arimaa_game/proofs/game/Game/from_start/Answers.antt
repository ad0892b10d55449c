use Rattle.arimaa_game.proofs.Lemmas.Endings.{kept-begun}
use Rattle.arimaa_game.proofs.game.Game.from_start.Goals as goal

pub invariant_of-result : goal.invariant_of-result
invariant_of-result c = kept-begun c.new-history.result c.push.new.self c.args.p c.ending_at-ending.result c.new-history.ensures c.in_ok-push.ensures.pushed c.requires c.ending_at-ending.ensures
