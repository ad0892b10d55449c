use Rattle.arimaa_match.proofs.Counted.{broken_cause, ends_later, fell_never, ports_fell}
use Rattle.arimaa_match.specs.Match.{turn}
use Rattle.arimaa_match.proofs.Parts.{went_off, went_on}
use Rattle.arimaa_match.proofs.Turns.{broke_off, thinking_as, thought_fault, thought_fine}
use Rattle.arimaa_match.proofs.play.turn.Goals as goal

pub returns-in-Err-clause-went : goal.returns-in-Err-clause-went
unfolding turn
returns-in-Err-clause-went g c =
    went_off _ (thinking_as c.side-side.ensures c.gold_reserve-gold_reserve.ensures
    c.silver_reserve-silver_reserve.ensures c.in-Err.ensures.went)

pub returns-in-Err-thought-clause-went : goal.returns-in-Err-thought-clause-went
unfolding turn
returns-in-Err-thought-clause-went g c =
    went_on _ (thinking_as c.side-side.ensures c.gold_reserve-gold_reserve.ensures
    c.silver_reserve-silver_reserve.ensures
    (thought_fault _ c.in-Ok.ensures.went c.in-Err-thought.is))
    (broke_off _ _ c.in-Err-thought.fault c.break_off.result c.break_off.ensures.state
    c.break_off.ensures.how)

pub returns-in-Ok-thought-clause-went : goal.returns-in-Ok-thought-clause-went
unfolding turn
returns-in-Ok-thought-clause-went g c =
    went_on _ (thinking_as c.side-side.ensures c.gold_reserve-gold_reserve.ensures
    c.silver_reserve-silver_reserve.ensures
    (thought_fine _ c.in-Ok.ensures.went c.in-Ok-thought.is))
    (c.rule_on.ensures.went _)

pub returns-in-Err-thought-clause-cause : goal.returns-in-Err-thought-clause-cause
returns-in-Err-thought-clause-cause g c =
    broken_cause _ _ c.in-Err-thought.fault c.in-Ok.thought c.break_off.result c.in-Err-thought.is
    c.in-Ok.ensures.cause c.break_off.ensures.how

pub returns-in-Ok-thought-clause-cause : goal.returns-in-Ok-thought-clause-cause
returns-in-Ok-thought-clause-cause g c =
    ends_later _ _ _ c.rule_on.result
    (ports_fell (fell_never c.in-Ok.ensures.went)) c.rule_on.ensures.cause
