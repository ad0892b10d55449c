use Rattle.std.proofs.Common.{refl, sym}
use Rattle.arimaa_line.specs.Lines.{Says}
use Rattle.arimaa_line.proofs.Lemmas.Truth.{truth_said}
use Rattle.arimaa_line.proofs.line.bounds_over.Goals as goal

pub tightest-requires : goal.tightest-requires
tightest-requires c = let says : Says c.args.line.now c.args.known.now.position c.in-Some.seen = (c.in-Some.ensures c.in-Some.seen).0 refl in sym says.1

pub returns-in-Some-clause-right : goal.returns-in-Some-clause-right
returns-in-Some-clause-right c = let says : Says c.args.line.now c.args.known.now.position c.in-Some.seen = (c.in-Some.ensures c.in-Some.seen).0 refl in
    λ side barred line known. c.tightest.ensures.right side barred known (truth_said side barred c.args.line.now c.in-Some.seen line says.0)
