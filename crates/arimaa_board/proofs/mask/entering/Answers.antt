use Rattle.std.proofs.Common.{◌<◌, ◌^◌, arith}
use Rattle.arimaa_board.proofs.Lemmas.Beside.{north, east, south, west}
use Rattle.arimaa_board.proofs.mask.entering.Goals as goal

pub returns-in-North : goal.returns-in-North
returns-in-North c = λ test is. let fits : c.args.mask < 2 ^ 64 = omega arith in rw c.in-North.is (north test c.args.mask fits is)

pub returns-in-East : goal.returns-in-East
returns-in-East c = λ test is. let fits : c.args.mask < 2 ^ 64 = omega arith in rw c.in-East.is (east test c.args.mask fits is)

pub returns-in-South : goal.returns-in-South
returns-in-South c = λ test is. let fits : c.args.mask < 2 ^ 64 = omega arith in rw c.in-South.is (south test c.args.mask fits is)

pub returns-in-West : goal.returns-in-West
returns-in-West c = λ test is. let fits : c.args.mask < 2 ^ 64 = omega arith in rw c.in-West.is (west test c.args.mask fits is)
