use Rattle.std.proofs.Common.{◌≡◌, subst, sym}
use Rattle.arimaa_model.specs.Game.{barred_by}
use Rattle.arimaa_model.specs.Strategies.{strategy_of}
use Rattle.arimaa_bot.specs.Choice.{IsChoice, said_by, wins_by}
use Rattle.arimaa_bot.specs.declared.stage.Stage.TheVariants as stages
use Rattle.arimaa_bot.proofs.Entries.{ok_then, some_entries}
use Rattle.arimaa_bot.proofs.Verdicts.{unproved_crowded, unproved_spent, won_by}
use Rattle.arimaa_bot.proofs.choice.said_on.Goals as goal

pub first_said-requires : goal.first_said-requires
first_said-requires c =
    let p = c.now-now.result in
    let w = won_by c.args.ahead.now c.args.game.now p c.args.verdict (c.requires.answer p c.now-now.ensures.present) (record { running = c.requires.running; now = c.now-now.ensures.present }) c.in-Yes.is in
    some_entries _ _ w.e w.entries w.first

pub plain_said-requires-in-Spent-clause-unproved : goal.plain_said-requires-in-Spent-clause-unproved
plain_said-requires-in-Spent-clause-unproved c = λ p now. unproved_spent c.args.ahead.now c.args.game.now p c.args.verdict (c.requires.answer p now) c.in-Spent.is

pub plain_said-requires-in-Crowded-clause-unproved : goal.plain_said-requires-in-Crowded-clause-unproved
plain_said-requires-in-Crowded-clause-unproved c = λ p now. unproved_crowded c.args.ahead.now c.args.game.now p c.args.verdict (c.requires.answer p now) c.in-Crowded.is

pub returns-in-Yes : goal.returns-in-Yes
returns-in-Yes c =
    let g = c.args.game.now in
    let p = c.now-now.result in
    let w = won_by c.args.ahead.now g p c.args.verdict (c.requires.answer p c.now-now.ensures.present) (record { running = c.requires.running; now = c.now-now.ensures.present }) c.in-Yes.is in
    let here = wins_by g p w.rank w.e (record { running = c.requires.running; now = c.now-now.ensures.present }) w.exact w.within w.first in
    ok_then c.first_said.result (λ text. text ≡ said_by w.e) (IsChoice c.args.ahead.now (stages.Playing g))
    (c.first_said.ensures (strategy_of p.side (barred_by g.history) w.rank p) w.e w.entries w.first)
    (λ text is. subst (IsChoice c.args.ahead.now (stages.Playing g)) (sym is) here)
