use Rattle.std.proofs.Common.{◌≡◌, ◌+◌, [], drop, take}
use Rattle.arimaa_strategy.specs.Findings.{first_answer}
use Rattle.arimaa_strategy.proofs.checker.first_answer.Given as goal

abbrev pub invariant-loop-number : goal.invariant-loop-number
invariant-loop-number l = record {
  answer : first_answer l.initial.region.room l.attacker l.barred l.strategy (l.number + 1) (take l.number l.strategy) (drop l.number l.strategy) ≡ first_answer l.initial.region.room l.attacker l.barred l.strategy 1 [] l.strategy;
  region : l.region ≡ record l.initial.region { work = l.region.work };
  layers_room : l.region.work.room ≡ l.initial.region.work.room;
}
