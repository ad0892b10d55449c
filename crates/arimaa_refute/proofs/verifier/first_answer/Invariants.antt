use Rattle.std.proofs.Common.{◌≡◌, ◌+◌, [], drop, take}
use Rattle.arimaa_refute.specs.Findings.{first_answer}
use Rattle.arimaa_refute.proofs.verifier.first_answer.Given as goal

abbrev pub invariant-loop-number : goal.invariant-loop-number
invariant-loop-number l = record {
  answer : first_answer l.initial.region.room l.attacker l.barred l.escapes (l.number + 1) (take l.number l.escapes) (drop l.number l.escapes) ≡ first_answer l.initial.region.room l.attacker l.barred l.escapes 1 [] l.escapes;
  region : l.region ≡ record l.initial.region { work = l.region.work };
  layers_room : l.region.work.room ≡ l.initial.region.work.room;
}
