use Rattle.arimaa_board.proofs.Lemmas.MaskSquares.{one_square}
use Rattle.arimaa_board.proofs.mask.mask_of.Goals as goal

pub returns-clause-square : goal.returns-clause-square
returns-clause-square c = rw c.number.ensures.value (one_square c.args.square c.number.ensures.in_range)
