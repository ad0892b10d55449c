use Rattle.std.proofs.Common.{◌+◌, length, sym, ◌∙◌, ap, arith, length-drop}
use Rattle.std.specs.Str.Lines.{strip_carriage_return}
use Rattle.arimaa_archive.proofs.GamePlaces.{later_start}
use Rattle.arimaa_archive.proofs.RecordPlaces.{game_here, next_line_start, no_game_left}
use Rattle.arimaa_archive.proofs.parts.cut_at_game.Goals as goal

pub lines-init : goal.lines-init
lines-init c = c.before_game_word-at.ensures

pub returns-then-is_game_line-clause-before : goal.returns-then-is_game_line-clause-before
returns-then-is_game_line-clause-before c =
    let cut = c.split_at.ensures.back in
    let left = length-drop c.lines.at c.args.bytes.now in
    (game_here c.args.bytes.now _ c.without_return.result.now c.lines.at c.line_len-size.result c.min.result
    c.lines.invariant cut (omega (arith, ap length cut, left))
    c.line_len-size.ensures.fits c.line_len-size.ensures.value c.min.ensures
    (c.without_return.ensures ∙ ap strip_carriage_return c.split_at-in-lines.ensures.front)
    (sym c.is_game_line.ensures ∙ c.if-is_game_line.true)).0

pub returns-then-is_game_line-clause-records : goal.returns-then-is_game_line-clause-records
returns-then-is_game_line-clause-records c =
    let cut = c.split_at.ensures.back in
    let left = length-drop c.lines.at c.args.bytes.now in
    (game_here c.args.bytes.now _ c.without_return.result.now c.lines.at c.line_len-size.result c.min.result
    c.lines.invariant cut (omega (arith, ap length cut, left))
    c.line_len-size.ensures.fits c.line_len-size.ensures.value c.min.ensures
    (c.without_return.ensures ∙ ap strip_carriage_return c.split_at-in-lines.ensures.front)
    (sym c.is_game_line.ensures ∙ c.if-is_game_line.true)).1

pub lines-preserved : goal.lines-preserved
lines-preserved c =
    let cut = c.split_at.ensures.back in
    let left = length-drop c.lines.at c.args.bytes.now in
    let next = c.split_at-in-lines-2.ensures.back in
    later_start c.args.bytes.now (c.lines.at + c.min.result) c.before_game_word.result
    (next_line_start c.args.bytes.now _ c.without_return.result.now c.lines.at c.line_len-size.result c.min.result
    c.lines.invariant cut (omega (arith, ap length cut, left))
    c.line_len-size.ensures.fits c.line_len-size.ensures.value c.min.ensures
    (c.without_return.ensures ∙ ap strip_carriage_return c.split_at-in-lines.ensures.front)
    (sym c.is_game_line.ensures ∙ c.if-is_game_line.false))
    (rw next at c.before_game_word.ensures)

pub returns-clause-before : goal.returns-clause-before
returns-clause-before c = (no_game_left c.args.bytes.now c.lines.at c.lines.invariant c.lines-test.false).0

pub returns-clause-records : goal.returns-clause-records
returns-clause-records c = (no_game_left c.args.bytes.now c.lines.at c.lines.invariant c.lines-test.false).1
