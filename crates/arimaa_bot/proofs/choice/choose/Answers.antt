use Rattle.std.proofs.Common.{◌≡◌, subst, sym}
use Rattle.std.specs.Prelude.{IfOk}
use Rattle.arimaa_board.specs.declared.piece.Color.TheVariants.{Gold, Silver}
use Rattle.arimaa_bot.specs.Choice.{IsChoice, gold_setup, setup_of, silver_setup}
use Rattle.arimaa_bot.specs.declared.stage.Stage.{Stage}
use Rattle.arimaa_bot.specs.declared.stage.Stage.TheVariants as stages
use Rattle.arimaa_bot.proofs.Entries.{ok_then}
use Rattle.arimaa_bot.proofs.choice.choose.Goals as goal

pub returns-in-Unset : goal.returns-in-Unset
returns-in-Unset g c =
    subst (λ (s : Stage). IfOk c.copied.result (IsChoice c.args.ahead.now s)) (sym c.in-Unset.is)
    (ok_then c.copied.result (λ text. text ≡ setup_of Gold) (IsChoice c.args.ahead.now stages.Unset) c.copied.ensures
    (λ text is. subst (IsChoice c.args.ahead.now stages.Unset) (sym is) gold_setup))

pub returns-in-GoldSet : goal.returns-in-GoldSet
returns-in-GoldSet g c =
    let before : Stage = stages.GoldSet c.in-GoldSet.field-0 in
    subst (λ (s : Stage). IfOk c.copied-in-GoldSet.result (IsChoice c.args.ahead.now s)) (sym c.in-GoldSet.is)
    (ok_then c.copied-in-GoldSet.result (λ text. text ≡ setup_of Silver) (IsChoice c.args.ahead.now before) c.copied-in-GoldSet.ensures
    (λ text is. subst (IsChoice c.args.ahead.now before) (sym is) (silver_setup c.in-GoldSet.field-0)))
