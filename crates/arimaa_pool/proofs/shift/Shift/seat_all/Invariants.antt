use Rattle.std.proofs.Common.{◌≡◌, ◌+◌, []}
use Rattle.std.specs.Prelude.{All, vec_len}
use Rattle.arimaa_jobs.specs.Seats.{IsSeatOf, view}
use Rattle.arimaa_pool.specs.Jobs.{IsFresh}
use Rattle.arimaa_pool.proofs.shift.Shift.seat_all.Given as goal

abbrev pub invariant-loop-asker : goal.invariant-loop-asker
invariant-loop-asker g l = record {
  own : IsSeatOf l.self.jobs.now l.whole;
  terms : l.crew.terms ≡ l.initial.crew.terms;
  all : l.crew.count + vec_len l.seated ≡ l.initial.crew.count;
  weight : (view l.whole).weight + vec_len l.seated ≡ 65536;
  spare : (view l.whole).spare + vec_len l.seated ≡ 65536;
  drawn : (view l.whole).drawn ≡ [];
  reported : (view l.whole).reported ≡ [];
  fresh : All (IsFresh l.self.jobs.now l.initial.crew.terms l.self.depth l.self.root.now) l.seated.items;
}

abbrev pub decreases-loop-asker : goal.decreases-loop-asker
decreases-loop-asker g l = l.crew.count
