use Rattle.std.proofs.Common.{◌≡◌, None, refl}
use Rattle.arimaa_board.specs.CodeLaws.{piece_of_code-code_of_content, is_code-code_of_content}
use Rattle.arimaa_board.specs.Piece.{piece_of_code}
use Rattle.arimaa_board.specs.Board.{at}
use Rattle.arimaa_board.proofs.board.Board.moved.Goals as goal

pub write-requires-2-clause-valid : goal.write-requires-2-clause-valid
write-requires-2-clause-valid c = rw c.code-code.ensures.value (is_code-code_of_content (at c.args.self.now c.number.result))

-- the code 0 is that of an empty square
emptied : piece_of_code 0 ≡ None
emptied = piece_of_code-code_of_content None

pub returns : goal.returns
returns c =
    rw (c.write-2.ensures, c.write.ensures, c.code-code.ensures.value, piece_of_code-code_of_content, emptied, c.number.ensures.value, c.number-2.ensures.value, c.number-3.ensures.value) refl
