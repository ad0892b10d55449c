use Rattle.std.specs.Int.Bits.{and_lt}
use Rattle.arimaa_board.proofs.Lemmas.MaskLaws.{and_mask}
use Rattle.arimaa_board.specs.declared.piece.Kind.TheVariants.{Rabbit}
use Rattle.arimaa_board.specs.Board.{at, holds}
use Rattle.arimaa_board.specs.Piece.{piece_of}
use Rattle.arimaa_model.specs.DecidedPositions.{is_goal}
use Rattle.arimaa_model.proofs.Home.{home_is}
use Rattle.arimaa_model.proofs.decision.is_home.Goals as goal

pub returns : goal.returns
returns c =
    let b = c.args.board.now in
    let color = c.args.color in
    home_is b color _ (and_lt 64 _ _ c.rabbits.type_inv c.goal_row.type_inv)
    (and_mask (λ n. holds (piece_of color Rabbit) (at b n)) (is_goal color) _ _ c.rabbits.ensures c.goal_row.ensures)
