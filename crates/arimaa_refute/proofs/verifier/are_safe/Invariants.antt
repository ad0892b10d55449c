use Rattle.std.proofs.Common.{◌≡◌, drop}
use Rattle.std.specs.List.{list_all}
use Rattle.arimaa_region.specs.Segments.{segment_of}
use Rattle.arimaa_refute.specs.Escapes.{is_safe}
use Rattle.arimaa_refute.proofs.verifier.are_safe.Given as goal

abbrev pub invariant-loop-k : goal.invariant-loop-k
invariant-loop-k l =
    let seg = segment_of l.region.segments l.fn.mark in
    list_all (is_safe l.attacker l.barred l.escapes l.turns) (drop l.k seg) ≡ list_all (is_safe l.attacker l.barred l.escapes l.turns) seg
