use Rattle.arimaa_archive.proofs.GamePlaces.{no_word, word_first}
use Rattle.arimaa_archive.proofs.RecordPlaces.{first_line_start}
use Rattle.arimaa_archive.proofs.parts.before_game_word.Goals as goal

pub returns-in-None : goal.returns-in-None
returns-in-None c = no_word c.args.bytes.now c.in-None.ensures

pub returns-in-None-memrchr : goal.returns-in-None-memrchr
returns-in-None-memrchr c = first_line_start c.args.bytes.now

pub returns-in-Some-memrchr : goal.returns-in-Some-memrchr
returns-in-Some-memrchr c =
    let last = c.in-Some-memrchr.ensures in
    word_first c.args.bytes.now c.split_at.result.0.now c.in-Some.place c.in-Some-memrchr.feed c.split_at.ensures.front
    c.in-Some.ensures.0.before last.0.high last.1
