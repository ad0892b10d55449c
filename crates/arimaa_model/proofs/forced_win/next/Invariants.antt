use Rattle.std.proofs.Common.{◌≡◌, take, not}
use Rattle.std.specs.List.{filter}
use Rattle.arimaa_model.specs.Results.{stands_in}
use Rattle.arimaa_model.proofs.forced_win.next.Given as goal

abbrev pub invariant-loop-q : goal.invariant-loop-q
invariant-loop-q l = l.out.items ≡ filter (λ q. not (stands_in l.barred q)) (take l.q-index l.q-items)
