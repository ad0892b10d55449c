use Rattle.std.proofs.Common.{◌≡◌, ◌-◌}
use Rattle.arimaa_jobs.specs.Seats.{IsSeatOf, view}
use Rattle.arimaa_jobs.proofs.Lemmas.SeatLaws.{past}
use Rattle.arimaa_pool.specs.Jobs.{Worked}
use Rattle.arimaa_pool.proofs.shift.Shift.claim_all.Given as goal

abbrev pub invariant-loop-job : goal.invariant-loop-job
invariant-loop-job g l = record {
  own : IsSeatOf l.self.jobs.now l.seat;
  same : l.asker ≡ l.initial.asker;
  worked : Worked l.initial.asker l.self.depth l.self.root.now (view l.seat) l.stopped;
  weight : (view l.seat).weight ≡ (view l.initial.seat).weight;
}

abbrev pub decreases-loop-job : goal.decreases-loop-job
decreases-loop-job g l = (view l.seat).count - past (view l.seat).drawn
