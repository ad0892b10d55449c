use Rattle.std.proofs.Common.{◌∙◌, sym}
use Rattle.arimaa_judge.proofs.Lemmas.TurnLaws.{broken_rule, brought, goes, goes_on}
use Rattle.arimaa_judge.proofs.record_state.play_turn.Goals as goal

pub returns-in-Ok-clause-history : goal.returns-in-Ok-clause-history
returns-in-Ok-clause-history c =
    brought c.args.game.now c.now-present.result c.args.noted.now c.requires.under_way.unclosed c.requires.running c.now-present.ensures.present c.play_noted.new.self c.steps-few.ensures.few c.in-Ok.ensures.played

pub returns-in-Some-clause-rule : goal.returns-in-Some-clause-rule
returns-in-Some-clause-rule c =
    let first = c.in-Err.ensures.first c.now-present.result c.now-present.ensures.present (goes c.args.game.now c.now-present.result c.args.noted.now c.requires.under_way.unclosed c.requires.running c.now-present.ensures.present) in
    sym c.in-Some.is ∙ (c.rule_of_game_fault.ensures ∙ broken_rule c.args.game.now c.now-present.result c.args.noted.now c.requires.under_way.unclosed c.requires.running c.now-present.ensures.present c.in-Err.fault c.in-Err.ensures.fault first)

pub returns-in-Ok-clause-under_way : goal.returns-in-Ok-clause-under_way
returns-in-Ok-clause-under_way c = goes_on c.args.game.now c.play_noted.new.self c.args.noted.now c.requires.under_way c.in-Ok.ensures.played
