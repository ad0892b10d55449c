use Rattle.arimaa_cli.proofs.Matches.{one_match}
use Rattle.arimaa_cli.proofs.Readings.{on_reading, unplayed}
use Rattle.arimaa_cli.proofs.play.run_play.Goals as goal

pub returns-in_default-clause-played : goal.returns-in_default-clause-played
returns-in_default-clause-played g c = λ read are asked asks. unplayed _ _ _ asked _ _ _ _

pub returns-in-Some-clause-played : goal.returns-in-Some-clause-played
returns-in-Some-clause-played g c = on_reading _ c.args.words.now _ _ c.in-Ok.ensures c.as_read.ensures (λ asked asks.
    rw (one_match c.as_read.result.now asked c.in-Some.asked asks c.in-Some.ensures.form) c.play.ensures.played)

pub returns-in-Some-clause-bad_words : goal.returns-in-Some-clause-bad_words
returns-in-Some-clause-bad_words g c = on_reading _ c.args.words.now _ _ c.in-Ok.ensures c.as_read.ensures (λ none. absurd (none c.in-Some.asked c.in-Some.ensures.form))

pub returns-in-Some-clause-spawner : goal.returns-in-Some-clause-spawner
returns-in-Some-clause-spawner g c = on_reading _ c.args.words.now _ _ c.in-Ok.ensures c.as_read.ensures (λ none. absurd (none c.in-Some.asked c.in-Some.ensures.form))

pub returns-in-Some-clause-clock : goal.returns-in-Some-clause-clock
returns-in-Some-clause-clock g c = on_reading _ c.args.words.now _ _ c.in-Ok.ensures c.as_read.ensures (λ none. absurd (none c.in-Some.asked c.in-Some.ensures.form))

pub returns-clause-played : goal.returns-clause-played
returns-clause-played g c = on_reading _ c.args.words.now _ _ c.in-Ok.ensures c.as_read.ensures (λ asked asks. absurd (c.in-None.ensures.none asked asks))
