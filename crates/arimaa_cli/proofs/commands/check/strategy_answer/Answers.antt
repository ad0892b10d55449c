use Rattle.std.proofs.Common.{◌≡◌, sym, ◌∙◌}
use Rattle.std.specs.Prelude.{Some}
use Rattle.arimaa_model.specs.Game.{present}
use Rattle.arimaa_cli.specs.Commands.Prove.{IsOpenAt}
use Rattle.arimaa_cli.specs.Commands.Check.IsStrategyAnswer.{closed, no_position, no_strategy}
use Rattle.arimaa_cli.proofs.ProveAnswers.{none_there, one_there}
use Rattle.arimaa_cli.proofs.commands.check.strategy_answer.Goals as goal

pub returns-in-Some : goal.returns-in-Some
returns-in-Some c = rw (c.new.ensures, c.in_ok-from_slice.ensures.items, c.ended_text.ensures) (closed _ c.in-Some.word (sym c.in-Some.ensures))

pub returns-then-is_none : goal.returns-then-is_none
returns-then-is_none c =
    rw (c.new-then-is_none.ensures, c.in_ok-from_slice-2.ensures.items)
    (no_position _ (sym c.in_default.ensures) (sym c.last.ensures ∙ none_there c.last.result c.is_none.result c.is_none.ensures c.if-is_none.true))

pub returns-in_ok-from_slice-in-None : goal.returns-in_ok-from_slice-in-None
returns-in_ok-from_slice-in-None c =
    let found = one_there c.last.result c.is_none.result c.is_none.ensures c.if-is_none.false in
    let last : present c.args.game.now.history ≡ Some found.0 = sym c.last.ensures ∙ found.1 in
    let here : IsOpenAt c.args.game.now found.0 = record { open_yet = sym c.in_default.ensures; last = last } in
    rw (c.in-None.is, c.new-in-None.ensures, c.in_ok-from_slice-in-None.ensures.items) (no_strategy found.0 here)
