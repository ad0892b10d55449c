use Rattle.arimaa_match.proofs.Counted.{end_later, fell_both, fell_never, fell_none, ports_fell}
use Rattle.std.proofs.Common.{arith}
use Rattle.arimaa_match.proofs.Turns.{end_known, midst_end, midst_more, midst_none, midst_off, midst_out}
use Rattle.arimaa_match.proofs.play.play.Goals as goal

pub loop-booked-init : goal.loop-booked-init
loop-booked-init g c = record { are_whole = c.requires; fell = fell_none _; midst = midst_none _ _ }

pub returns-in-Err-clause-went : goal.returns-in-Err-clause-went
returns-in-Err-clause-went g c =
    midst_off c.loop-booked-test.true (c.loop-booked.invariant.midst) (c.in-Err.ensures.went)

pub returns-in-Some-clause-went : goal.returns-in-Some-clause-went
returns-in-Some-clause-went g c =
    midst_end c.loop-booked-test.true (c.loop-booked.invariant.midst)
    (end_known (c.in-Ok.ensures.went) c.in-Some.is)

pub loop-booked-preserved : goal.loop-booked-preserved
loop-booked-preserved g c =
    let ended = rw c.in-None.is at c.in-Ok.ensures.ended in
    record {
      fell = fell_both _ _ _ c.loop-booked.invariant.fell
          (ports_fell (fell_never c.in-Ok.ensures.went));
      are_whole = record { gold_whole = ended.gold_so; silver_whole = ended.silver_so };
      midst = midst_more (c.loop-booked.invariant.midst)
          (end_known (c.in-Ok.ensures.went) c.in-None.is);
    }

pub returns-clause-went : goal.returns-clause-went
returns-clause-went g c =
    midst_out c.loop-booked.booked c.loop-booked-test.false (omega arith)
    (c.loop-booked.invariant.midst)

pub returns-in-Some-clause-cause : goal.returns-in-Some-clause-cause
returns-in-Some-clause-cause g c =
    let cause = rw c.in-Some.is at c.in-Ok.ensures.cause in
    end_later _ _ _ c.in-Some.how c.loop-booked.invariant.fell cause
