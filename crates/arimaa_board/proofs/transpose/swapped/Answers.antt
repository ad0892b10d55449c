use Rattle.arimaa_board.proofs.Transposing.{swap_bits, swap_small}
use Rattle.arimaa_board.proofs.transpose.swapped.Goals as goal

pub returns-clause-small : goal.returns-clause-small
returns-clause-small c = swap_small _ _ c.args.shift c.args.mask c.element_fits.fits c.element_fits2.fits c.ranges.mask.fits

pub returns-clause-bits : goal.returns-clause-bits
returns-clause-bits c = swap_bits c.args.pair c.args.shift c.args.mask c.requires.shift c.requires.mask
