use Rattle.std.proofs.Common.{arith}
use Rattle.arimaa_region.proofs.index.Index.len.Goals as goal

pub overflow_cast-result : goal.overflow_cast-result
overflow_cast-result c = omega (arith, c.len.ensures, c.self.invariant.small, c.self.invariant.linked.fits)
