use Rattle.arimaa_board.specs.Transpose.{bit_in, swap_source}
use Rattle.arimaa_board.proofs.Transposing.{chained, far_source, far_all}
use Rattle.arimaa_board.proofs.transpose.far.Goals as goal

pub returns-clause-bits : goal.returns-clause-bits
returns-clause-bits c =
    chained (bit_in c.args.pair) (bit_in c.swapped-twos.result) (bit_in c.swapped-eights.result) (bit_in c.swapped.result)
    (swap_source 2 3689348814741910323) (swap_source 8 71777214294589695) (swap_source 32 4294967295) far_source
    c.swapped-twos.ensures.bits c.swapped-eights.ensures.bits c.swapped.ensures.bits far_all
