-- When two marks are the same.
use Rattle.std.proofs.Common.{◌≡◌, ℕ, Option, None, Some, true, refl, eq-eqb}
use Rattle.std.proofs.lemmas.Bool.{and_from}
use Rattle.arimaa_board.specs.declared.piece.Piece.{Piece}
use Rattle.arimaa_board.specs.Piece.{code_of}
use Rattle.arimaa_model.specs.Marks.{same_mark}

-- a mark is the same as itself
pub same_mark-itself : (m : Option (Piece × ℕ)) → same_mark m m ≡ true
same_mark-itself None = refl
same_mark-itself (Some m) = and_from _ _ (eq-eqb (code_of m.0) (code_of m.0) refl) (eq-eqb m.1 m.1 refl)
