use Rattle.arimaa_model.specs.Game.{barred_by}
use Rattle.arimaa_model.specs.Strategies.{strategy_of}
use Rattle.arimaa_forced.proofs.Lemmas.Plays.{accepted-plays}
use Rattle.arimaa_forced.proofs.Meetings.{entry-met, met-entry}
use Rattle.arimaa_forced.proofs.Lemmas.OwnStrategies.{made-accepted, made-ranked}
use Rattle.arimaa_forced.proofs.laws.own_strategies_are_accepted.Goals as goal

pub returns-clause-accepted : goal.returns-clause-accepted
returns-clause-accepted c = made-accepted

pub returns-clause-rank : goal.returns-clause-rank
returns-clause-rank c = made-ranked

pub returns-clause-plays : goal.returns-clause-plays
returns-clause-plays c = λ a h p r last exact. accepted-plays a h p r (strategy_of a (barred_by h) r p) last (made-accepted a (barred_by h) p r exact)

pub returns-clause-met : goal.returns-clause-met
returns-clause-met c = λ a barred p s q is. (λ there. entry-met a barred p s is q there, λ met. met-entry a barred p s is q met)
