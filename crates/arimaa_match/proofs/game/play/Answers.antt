use Rattle.arimaa_judge.proofs.Lemmas.TurnLaws.{brought, goes_on}
use Rattle.arimaa_game.proofs.Lemmas.Endings.{running-rules}
use Rattle.arimaa_match.proofs.Games.{played_lawful, refused_unlawful}
use Rattle.arimaa_match.proofs.game.play.Goals as goal

pub returns-in-Ok-clause-made : goal.returns-in-Ok-clause-made
returns-in-Ok-clause-made c =
    played_lawful c.args.game.now c.play_noted.new.self c.now-present.result c.args.marked
    c.now-present.ensures.present c.in-Ok.ensures.played
    (c.in-Ok.ensures.first c.now-present.result c.now-present.ensures.present
    c.in-Ok.ensures.played.2.running)

pub returns-in-Ok-clause-history : goal.returns-in-Ok-clause-history
returns-in-Ok-clause-history c =
    brought c.args.game.now c.now-present.result c.args.marked c.requires.unclosed
    (running-rules c.args.game.now c.in-Ok.ensures.played.2.running)
    c.now-present.ensures.present c.play_noted.new.self c.steps-few.ensures.few
    c.in-Ok.ensures.played

pub returns-in-Ok-clause-under_way : goal.returns-in-Ok-clause-under_way
returns-in-Ok-clause-under_way c =
    goes_on c.args.game.now c.play_noted.new.self c.args.marked c.requires c.in-Ok.ensures.played

pub returns-in_default-clause-made : goal.returns-in_default-clause-made
returns-in_default-clause-made c =
    refused_unlawful c.args.game.now c.now-present.result c.args.marked c.in-Err.fault c.requires
    c.now-present.ensures.present c.in_default.not-Memory c.in-Err.ensures.fault
    (c.in-Err.ensures.first c.now-present.result c.now-present.ensures.present)
