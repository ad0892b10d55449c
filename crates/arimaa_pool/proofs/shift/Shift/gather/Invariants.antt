use Rattle.std.proofs.Common.{◌≡◌, ◌+◌, ◌⊎◌, true}
use Rattle.std.specs.Prelude.{All, vec_len}
use Rattle.arimaa_jobs.specs.Seats.{IsSeatOf, view}
use Rattle.arimaa_pool.specs.Jobs.{IsDoneWith, Worked, has_ended}
use Rattle.arimaa_pool.proofs.shift.Shift.gather.Given as goal

abbrev pub invariant-loop-seated : goal.invariant-loop-seated
invariant-loop-seated g l = record {
  own : IsSeatOf l.self.jobs.now l.whole;
  terms : l.crew.terms ≡ l.initial.crew.terms;
  all : l.crew.count + vec_len l.done ≡ l.initial.crew.count + vec_len l.fn.done;
  weight : (view l.whole).weight + vec_len l.done ≡ 65536;
  worked : Worked l.initial.crew.terms l.self.depth l.self.root.now (view l.whole) l.stopped;
  done : All (IsDoneWith l.self.jobs.now l.initial.crew.terms l.self.depth l.self.root.now) l.done.items;
  ended : (vec_len l.done ≡ vec_len l.fn.done) ⊎ (has_ended (view l.whole) ≡ true);
}

abbrev pub decreases-loop-seated : goal.decreases-loop-seated
decreases-loop-seated g l = vec_len l.done
