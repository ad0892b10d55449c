use Rattle.std.proofs.Common.{inl, inr}
use Rattle.arimaa_cli.specs.Reading.AreReadAs.{plain}
use Rattle.arimaa_cli.proofs.Readings.{read_other}
use Rattle.arimaa_cli.proofs.other_words.other_words.Goals as goal

pub returns-in-Some : goal.returns-in-Some
returns-in-Some c = plain (inl (c.in-Some.field-0, c.in-Some.ensures.form))

pub returns-in-Some-read_play : goal.returns-in-Some-read_play
returns-in-Some-read_play c = plain (inr (c.in-Some-read_play.field-0, c.in-Some-read_play.ensures.form))

pub returns : goal.returns
returns c = read_other c.args.words.now c.in_default.ensures.none c.in_default-read_play.ensures.none c.matched.result c.matched.ensures.some c.matched.ensures.none
