use Rattle.std.proofs.Common.{rules, ◌≡◌, ◌≤◌, ◌∙◌, sym, ap, arith}
use Rattle.arimaa_board.specs.Words.{squares_of, words_of}
use Rattle.arimaa_line.specs.declared.bounds.Bounds.{Bounds}
use Rattle.arimaa_line.specs.Lines.{stamp_of}
use Rattle.arimaa_line.proofs.Decoding.{board_words}
use Rattle.arimaa_line.proofs.Lemmas.Truth.{says_there, says_only}
use Rattle.arimaa_line.proofs.line.read.Goals as goal

pub returns-then-eq : goal.returns-then-eq
returns-then-eq c = let b : Bounds = c.bounds_of-bounds.result in
    let some : 1 ≤ stamp_of c.args.line.now = omega arith in
    let same : board_words c.args.line.now ≡ words_of c.args.position.now.board = search rules in
    let back : squares_of (words_of c.args.position.now.board) ≡ c.args.position.now.board = ap squares_of (sym c.words.ensures.words) ∙ c.words.ensures.board in
    let side : b.position.side ≡ c.args.position.now.side = search rules in
    says_only c.args.line.now c.args.position.now b (says_there c.args.line.now c.args.position.now b c.requires some same back c.bounds_of-bounds.ensures side)
