use Rattle.std.proofs.lemmas.Bool.{both_ways}
use Rattle.arimaa_forced.proofs.Lemmas.Plays.{accepted-wins}
use Rattle.arimaa_refute.proofs.HeldRoots.{held-lost, held-fewer}
use Rattle.arimaa_refute.proofs.laws.held_roots_are_not_won.Goals as goal

pub returns-clause-not_won : goal.returns-clause-not_won
returns-clause-not_won c = λ a barred p n c h. held-lost a barred c n p h

pub returns-clause-no_strategy : goal.returns-clause-no_strategy
returns-clause-no_strategy c = λ a barred p n c s h accepted. both_ways _ (held-lost a barred c n p h) (accepted-wins a barred p n s accepted)

pub returns-clause-fewer : goal.returns-clause-fewer
returns-clause-fewer c = λ a barred p m n c le h. held-fewer a barred c m n p le h
