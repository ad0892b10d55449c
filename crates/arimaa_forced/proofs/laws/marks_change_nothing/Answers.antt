use Rattle.std.specs.Prelude.{map}
use Rattle.std.proofs.Common.{subst, sym, List}
use Rattle.arimaa_model.specs.Strategies.{Planned, strategy_of}
use Rattle.arimaa_forced.specs.Acceptance.{Accepts}
use Rattle.arimaa_forced.specs.Entries.{planned_of}
use Rattle.arimaa_forced.proofs.Lemmas.Plays.{accepted-plays}
use Rattle.arimaa_forced.proofs.Lemmas.OwnStrategies.{made-accepted}
use Rattle.arimaa_forced.proofs.Lemmas.NotedEntries.{planned-written, written-marked}
use Rattle.arimaa_forced.proofs.laws.marks_change_nothing.Goals as goal

pub returns-clause-plays : goal.returns-clause-plays
returns-clause-plays c = λ a h p n s last accepted. accepted-plays a h p n (map planned_of s) last accepted.plain

pub returns-clause-own : goal.returns-clause-own
returns-clause-own c = λ a barred p r exact. record {
  plain = subst (λ (l : List Planned). Accepts a barred r l p) (sym (planned-written (strategy_of a barred r p))) (made-accepted a barred p r exact);
  marked = written-marked (strategy_of a barred r p);
}

pub returns-clause-planned : goal.returns-clause-planned
returns-clause-planned c = planned-written
