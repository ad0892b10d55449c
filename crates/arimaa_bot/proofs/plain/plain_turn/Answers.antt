use Rattle.std.proofs.Common.{◌≡◌, ◌∙◌, List, true, ap, subst, sym}
use Rattle.std.specs.List.{list_any}
use Rattle.arimaa_board.specs.declared.position.Position.{Position}
use Rattle.arimaa_model.specs.Game.{barred_by}
use Rattle.arimaa_model.specs.Results.{results}
use Rattle.arimaa_bot.specs.Choice.{is_allowed}
use Rattle.arimaa_bot.proofs.PlainTurns.{some_allowed}
use Rattle.arimaa_bot.proofs.plain.plain_turn.Goals as goal

pub unwrap-requires : goal.unwrap-requires
unwrap-requires c =
    let p = c.args.p.now in
    let value : c.barred-barred.result.now ≡ barred_by c.args.game.now.history = c.barred-barred.ensures.value ∙ ap barred_by c.history.ensures.value in
    let some = some_allowed c.args.game.now p c.requires.running c.requires.now in
    c.first_turn_where-found.ensures.some ∙ subst (λ (barred : List Position). list_any (is_allowed barred) (results p) ≡ true) (sym value) some
