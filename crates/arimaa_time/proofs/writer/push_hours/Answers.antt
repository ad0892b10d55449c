use Rattle.std.proofs.Common.{arith, ap, length, length-append}
use Rattle.arimaa_time.specs.Writing.{clock_text}
use Rattle.arimaa_time.proofs.Lengths.{length_hours}
use Rattle.arimaa_time.proofs.writer.push_hours.Goals as goal

pub push_clock-requires-clause-room : goal.push_clock-requires-clause-room
push_clock-requires-clause-room c = omega (arith, length_hours c.args.milliseconds c.ranges.milliseconds.fits)

pub returns-clause-len : goal.returns-clause-len
returns-clause-len c =
    omega (arith, length_hours c.args.milliseconds c.ranges.milliseconds.fits, ap length c.push_clock.ensures, length-append c.args.text.now.bytes (clock_text 60000 c.args.milliseconds))
