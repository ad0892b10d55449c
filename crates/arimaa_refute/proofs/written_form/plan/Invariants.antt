use Rattle.std.proofs.Common.{◌≡◌, map, take}
use Rattle.arimaa_refute.specs.Escapes.{entry_of}
use Rattle.arimaa_refute.proofs.written_form.plan.Given as goal

abbrev pub invariant-loop-escape : goal.invariant-loop-escape
invariant-loop-escape l = l.strategy ≡ map entry_of (take l.escape-index l.escape-items)
