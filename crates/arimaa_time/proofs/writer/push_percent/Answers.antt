use Rattle.std.proofs.Common.{◌++◌, arith, ap, length, length-append, decimal}
use Rattle.arimaa_time.proofs.Lengths.{length_percent}
use Rattle.arimaa_time.proofs.writer.push_percent.Goals as goal

pub push_number-requires : goal.push_number-requires
push_number-requires c = omega (arith, length_percent c.args.percent c.ranges.percent.fits, ap (λ n. length (decimal n)) c.from.ensures)

pub returns-clause-len : goal.returns-clause-len
returns-clause-len c =
    omega (arith, length_percent c.args.percent c.ranges.percent.fits, ap length c.push_number.ensures, ap (λ n. length (c.args.text.now.bytes ++ decimal n)) c.from.ensures, length-append c.args.text.now.bytes (decimal c.args.percent))
