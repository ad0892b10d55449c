use Rattle.std.proofs.Common.{◌++◌, ap, arith, lit<, length, length-append, decimal}
use Rattle.arimaa_time.proofs.Lengths.{length_turns}
use Rattle.arimaa_time.proofs.writer.push_turns.Goals as goal

pub push_number-requires : goal.push_number-requires
push_number-requires c = omega (arith, length_turns c.args.turns c.ranges.turns.fits, ap (λ n. length (decimal n)) c.from.ensures)

pub push_str-requires : goal.push_str-requires
push_str-requires c =
    (lit< tt, omega (arith, c.requires, length_turns c.args.turns c.ranges.turns.fits, ap length c.push_number.ensures, ap (λ n. length (c.args.text.now.bytes ++ decimal n)) c.from.ensures, length-append c.args.text.now.bytes (decimal c.args.turns)))

pub returns-clause-len : goal.returns-clause-len
returns-clause-len c =
    omega (arith, c.push_str.ensures.len, length_turns c.args.turns c.ranges.turns.fits, ap length c.push_number.ensures, ap (λ n. length (c.args.text.now.bytes ++ decimal n)) c.from.ensures, length-append c.args.text.now.bytes (decimal c.args.turns))
