use Rattle.std.proofs.Common.{arith, length, refl, eq-eqb}
use Rattle.arimaa_cli.proofs.Parting.{first_ended, first_open}
use Rattle.arimaa_cli.proofs.parts.first_line_len.Goals as goal

pub returns-then-byte-eq10 : goal.returns-then-byte-eq10
returns-then-byte-eq10 c = first_ended c.args.bytes.now c.loop-place.place (omega arith) c.loop-place.invariant (eq-eqb _ 10 c.if-byte-eq10.true)

pub returns : goal.returns
returns c = first_open c.args.bytes.now (length c.args.bytes.now) c.requires refl (λ k less. c.loop-place.invariant k (omega arith))
