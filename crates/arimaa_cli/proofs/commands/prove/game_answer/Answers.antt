use Rattle.std.proofs.Common.{◌≡◌, sym, ◌∙◌}
use Rattle.std.specs.Prelude.{Some}
use Rattle.arimaa_model.specs.Game.{present}
use Rattle.arimaa_cli.specs.Commands.Prove.{IsOpenAt}
use Rattle.arimaa_cli.specs.Commands.Prove.IsProveAnswer.{closed, no_position}
use Rattle.arimaa_cli.proofs.ProveAnswers.{none_there, one_there, told_right, verdict_answers}
use Rattle.arimaa_cli.proofs.commands.prove.game_answer.Goals as goal

pub returns-in-Some : goal.returns-in-Some
returns-in-Some g c = rw (c.new.ensures, c.in_ok-from_slice.ensures.items, c.ended_text.ensures) (closed c.in-Some.word (sym c.in-Some.ensures))

pub returns-then-is_none : goal.returns-then-is_none
returns-then-is_none g c =
    rw (c.new-then-is_none.ensures, c.in_ok-from_slice-2.ensures.items)
    (no_position (sym c.in_default.ensures) (sym c.last.ensures ∙ none_there c.last.result c.is_none.result c.is_none.ensures c.if-is_none.true))

pub returns : goal.returns
returns g c =
    let found = one_there c.last.result c.is_none.result c.is_none.ensures c.if-is_none.false in
    let last : present c.args.game.now.history ≡ Some found.0 = sym c.last.ensures ∙ found.1 in
    let here : IsOpenAt c.args.game.now found.0 = record { open_yet = sym c.in_default.ensures; last = last } in
    told_right c.args.asked.now c.args.game.now c.in_ok-verdict.verdict
    (verdict_answers c.args.asked.now c.args.game.now found.0 here c.in_ok-verdict.verdict (c.in_ok-verdict.ensures.answer found.0 last) c.in_ok-verdict.ensures.plays)
    c.told.result c.told.ensures
