use Rattle.std.proofs.Common.{arith}
use Rattle.arimaa_record.proofs.Lemmas.LineGathering.{piece-fed, piece-whole}
use Rattle.arimaa_record.proofs.line_reader.move_piece.Goals as goal

pub returns-then-len-size-clause-moved : goal.returns-then-len-size-clause-moved
returns-then-len-size-clause-moved c =
    piece-fed _ c.as_slice-bytes.result.now _ _ _ c.line_len-len.result c.as_slice-bytes.ensures.value c.line_len-len.ensures.value (omega arith)
    c.in_ok-extend_from_slice.ensures.items c.pass.ensures

pub returns-else-len-size-clause-moved : goal.returns-else-len-size-clause-moved
returns-else-len-size-clause-moved c =
    piece-whole _ c.as_slice-bytes.result.now _ _ _ c.line_len-len.result c.as_slice-bytes.ensures.value c.line_len-len.ensures.value (omega arith) (omega arith)
    c.in_ok-extend_from_slice.ensures.items c.pass-else-len-size.ensures
