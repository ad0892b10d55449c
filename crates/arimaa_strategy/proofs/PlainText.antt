-- A written entry has no byte that ends a line.
use Rattle.std.proofs.Common.{ℕ, ◌<◌, ◌^◌, ◌∷◌, ◌++◌, arith}
use Rattle.std.specs.Fmt.{decimal}
use Rattle.arimaa_board.specs.Text.{text_of}
use Rattle.arimaa_notation.specs.Written.{items_of_turn, text_of_turn}
use Rattle.arimaa_record.proofs.Lemmas.PlainLaws.{IsPlain, plain_seen, all_append, decimal_seen, board_plain, joined_plain, turn_plain}
use Rattle.arimaa_forced.specs.declared.entry.Entry.{Entry}
use Rattle.arimaa_strategy.specs.WrittenForm.{text_of_entry}

pub entry_plain : (e : Entry) → e.rank < 2 ^ 64 → IsPlain (text_of_entry e)
entry_plain e small =
    let P : ℕ → Type 0 = λ b. 31 < b in
    all_append P (decimal e.rank ++ 32 ∷ text_of e.position.board) (32 ∷ text_of_turn e.turn)
    (all_append P (decimal e.rank) (32 ∷ text_of e.position.board) (plain_seen (decimal e.rank) (decimal_seen e.rank small)) (omega arith, board_plain e.position.board))
    (omega arith, joined_plain (items_of_turn e.turn) (turn_plain e.turn))
