use Rattle.std.proofs.Common.{inl, refl, sym, arith}
use Rattle.std.proofs.lemmas.Bool.{false_from_ne_true, both_ways}
use Rattle.arimaa_model.proofs.Lemmas.Ranking.{wins-le, rank-is, rank-from}
use Rattle.arimaa_forced.proofs.laws.needs_go_to_the_rank.Goals as goal

pub returns-clause-to_the_rank : goal.returns-clause-to_the_rank
returns-clause-to_the_rank c = λ a barred n p won. rank-is a barred n p won

pub returns-clause-to_the_depth : goal.returns-clause-to_the_depth
returns-clause-to_the_depth c = λ a barred n p lost. sym (rank-from a barred n n p (omega arith) (λ j less. false_from_ne_true _ (λ won. both_ways _ lost (wins-le a barred j n p (omega arith) won))) (inl refl))
