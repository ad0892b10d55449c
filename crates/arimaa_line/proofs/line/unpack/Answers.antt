use Rattle.std.proofs.Common.{◌≡◌, ◌∙◌, ap, get_or, Option, None, Some}
use Rattle.std.specs.Prelude.{IsSome}
use Rattle.arimaa_board.specs.declared.board.Board.{Board}
use Rattle.arimaa_board.specs.Words.{squares_of}
use Rattle.arimaa_line.specs.Words.{bounds_of}
use Rattle.arimaa_line.proofs.Decoding.{board_words, codes_say, bounds_say}
use Rattle.arimaa_line.proofs.line.unpack.Goals as goal

no_board : (o : Option Board) → IsSome o → ((b : Board) → o ≡ Some b → ⊥) → ⊥
no_board None some none = cc
no_board (Some b) some none = none b (λ i. Some b)

pub returns-in_default-clause-said : goal.returns-in_default-clause-said
returns-in_default-clause-said c = λ k says. absurd (no_board c.from_words.result (c.from_words.ensures.valid.1 (codes_say c.args.line.now k says)) c.in_default.not-Some)

pub returns-clause-said : goal.returns-clause-said
returns-clause-said c =
    let board : c.in-Some.board ≡ squares_of (board_words c.args.line.now) = c.in-Some.ensures.board in
    λ k says. ap Some (c.bounds_of.ensures ∙ (ap (λ (b : Board). bounds_of b (get_or c.args.line.now.words 4 0)) board ∙ bounds_say c.args.line.now k says))
