use Rattle.std.proofs.Common.{◌≡◌, subst, sym}
use Rattle.arimaa_bot.specs.Choice.{IsChoice, plain, said_from}
use Rattle.arimaa_bot.specs.declared.stage.Stage.TheVariants as stages
use Rattle.arimaa_bot.proofs.Entries.{ok_then}
use Rattle.arimaa_bot.proofs.choice.plain_said.Goals as goal

pub returns : goal.returns
returns c =
    let p = c.now-p.result in
    let turn = c.plain_turn-turn.result in
    let here = plain c.args.game.now p turn (record { running = c.requires.running; now = c.now-p.ensures.present })
    (c.requires.unproved p c.now-p.ensures.present) c.plain_turn-turn.ensures.plain in
    ok_then c.said.result (λ text. text ≡ said_from p turn) (IsChoice c.args.ahead.now (stages.Playing c.args.game.now)) c.said.ensures
    (λ text is. subst (IsChoice c.args.ahead.now (stages.Playing c.args.game.now)) (sym is) here)
