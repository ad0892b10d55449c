use Rattle.arimaa_judge.proofs.record_state.history_in.Goals as goal

pub returns-in-Playing-clause-lawful : goal.returns-in-Playing-clause-lawful
returns-in-Playing-clause-lawful c = rw c.into_history.ensures c.history-history.ensures.rule.lawful
