use Rattle.std.proofs.Common.{◌≡◌, sym, None, Some, Option, subst, ℕ}
use Rattle.std.specs.Prelude.{IfSome, IfNone}
use Rattle.arimaa_board.specs.declared.piece.Piece.{Piece}
use Rattle.arimaa_board.specs.Piece.{letter_of, piece_of_letter}
use Rattle.arimaa_notation.proofs.LetterLaws.{letter_some, letter_none}
use Rattle.arimaa_notation.proofs.letters.read_piece.Goals as goal

pub returns-clause-some : goal.returns-clause-some
returns-clause-some c =
    let P : Option Piece → Type 0 = λ r. IfSome r (λ p. c.args.letter ≡ letter_of p) in
    subst P (sym c.from_letter.ensures) (letter_some c.args.letter)

none_by_cases : (b : ℕ) (r : Option Piece) → r ≡ piece_of_letter b → IfNone r ((p : Piece) → b ≡ letter_of p → ⊥)
none_by_cases b None is = λ p e. letter_none b p (sym is) e
none_by_cases b (Some q) is = tt

pub returns-clause-none : goal.returns-clause-none
returns-clause-none c = none_by_cases c.args.letter c.from_letter.result c.from_letter.ensures
