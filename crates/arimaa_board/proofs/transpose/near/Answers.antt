use Rattle.arimaa_board.specs.Transpose.{bit_in, swap_source}
use Rattle.arimaa_board.proofs.Transposing.{chained, near_source, near_all}
use Rattle.arimaa_board.proofs.transpose.near.Goals as goal

pub returns-clause-bits : goal.returns-clause-bits
returns-clause-bits c =
    chained (bit_in c.args.pair) (bit_in c.swapped-ones.result) (bit_in c.swapped-fours.result) (bit_in c.swapped.result)
    (swap_source 1 6148914691236517205) (swap_source 4 1085102592571150095) (swap_source 16 281470681808895) near_source
    c.swapped-ones.ensures.bits c.swapped-fours.ensures.bits c.swapped.ensures.bits near_all
