use Rattle.std.proofs.Common.{ℕ}
use Rattle.std.specs.Prelude.{◌&&◌, not, is_some}
use Rattle.arimaa_board.proofs.Lemmas.MaskLaws.{and_mask, not_mask}
use Rattle.arimaa_board.specs.declared.piece.Kind.TheVariants.{Rabbit}
use Rattle.arimaa_board.specs.Board.{at, holds}
use Rattle.arimaa_board.specs.Masks.{passes}
use Rattle.arimaa_board.specs.Piece.{piece_of}
use Rattle.arimaa_board.specs.Square.{next_square}
use Rattle.arimaa_model.specs.Moves.{is_back}
use Rattle.arimaa_search.specs.AtEase.{is_at_ease}
use Rattle.arimaa_search.proofs.at_ease.going.Goals as goal

pub returns : goal.returns
returns c =
    let b = c.args.board.now in
    let side = c.args.side in
    let dir = c.args.dir in
    let here = λ (n : ℕ). is_some (at b n) in
    let back = λ (n : ℕ). is_back side dir && holds (piece_of side Rabbit) (at b n) in
    let onward = not_mask back c.kept_back.result c.kept_back.type_inv c.kept_back.ensures in
    let free = c.entering.ensures (λ m. not (here m)) (not_mask here c.occupied.result c.occupied.type_inv c.occupied.ensures) in
    and_mask (λ n. is_at_ease b side n && not (back n)) (λ n. passes (λ m. not (here m)) (next_square n dir)) _ _
    (and_mask (is_at_ease b side) (λ n. not (back n)) _ _ c.requires onward)
    free
