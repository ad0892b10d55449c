use Rattle.std.proofs.Common.{arith}
use Rattle.arimaa_forced.proofs.Lemmas.Deeper.{cost-some}
use Rattle.arimaa_forced.proofs.Lemmas.Trees.{cost-size, size-grows, crowd-grows}
use Rattle.arimaa_forced.proofs.laws.costs_are_within_sizes.Goals as goal

pub returns-clause-some : goal.returns-clause-some
returns-clause-some c = λ a barred n p. cost-some a barred p n

pub returns-clause-within : goal.returns-clause-within
returns-clause-within c = λ a barred j n p le. let cheap = cost-size a barred j p in let deep = size-grows barred j n p le in omega arith

pub returns-clause-sizes_grow : goal.returns-clause-sizes_grow
returns-clause-sizes_grow c = size-grows

pub returns-clause-crowds_grow : goal.returns-clause-crowds_grow
returns-clause-crowds_grow c = crowd-grows
