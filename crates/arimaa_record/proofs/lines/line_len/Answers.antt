use Rattle.std.proofs.Common.{arith, sym, eq-eqb}
use Rattle.std.proofs.lemmas.List.Sums.{position_or_len_is}
use Rattle.arimaa_record.specs.Lines.{is_feed}
use Rattle.arimaa_record.proofs.lines.line_len.Goals as goal

pub returns-then-byte-eq10-clause-value : goal.returns-then-byte-eq10-clause-value
returns-then-byte-eq10-clause-value c =
    sym (position_or_len_is is_feed c.args.bytes.now c.loop-place.place 0 (omega arith) c.loop-place.invariant (λ _. eq-eqb _ 10 c.if-byte-eq10.true))

pub returns-clause-value : goal.returns-clause-value
returns-clause-value c =
    sym (position_or_len_is is_feed c.args.bytes.now _ 0 (omega arith) (λ k less. c.loop-place.invariant k (omega arith)) (λ more. absurd (omega arith)))
