use Rattle.arimaa_forced.proofs.Lemmas.Trees.{need-tree, need-size, need-crowd}
use Rattle.arimaa_forced.proofs.laws.needs_are_within_the_root.Goals as goal

pub returns-clause-tree : goal.returns-clause-tree
returns-clause-tree c = λ a barred n p j q undecided there. need-tree a barred p n q j undecided there

pub returns-clause-size : goal.returns-clause-size
returns-clause-size c = λ a barred n p j q there. need-size a barred p n q j there

pub returns-clause-crowd : goal.returns-clause-crowd
returns-clause-crowd c = λ a barred n p j q there. need-crowd a barred p n q j there
