use Rattle.std.proofs.Common.{◌≡◌, ◌∙◌, subst, sym}
use Rattle.std.specs.Prelude.{codes}
use Rattle.arimaa_bot.specs.Choice.{IsChoice, resigns}
use Rattle.arimaa_bot.specs.declared.stage.Stage.TheVariants as stages
use Rattle.arimaa_bot.proofs.Entries.{ok_then, some_value}
use Rattle.arimaa_bot.proofs.choice.choose_turn.Goals as goal

pub returns-then-is_some : goal.returns-then-is_some
returns-then-is_some g c =
    let e = some_value c.ending.result (sym c.is_some.ensures ∙ c.if-is_some.true) in
    let here = resigns c.args.game.now e.0 (sym c.ending.ensures ∙ e.1) in
    ok_then c.copied.result (λ text. text ≡ codes "resign") (IsChoice c.args.ahead.now (stages.Playing c.args.game.now)) c.copied.ensures
    (λ text is. subst (IsChoice c.args.ahead.now (stages.Playing c.args.game.now)) (sym is) here)
