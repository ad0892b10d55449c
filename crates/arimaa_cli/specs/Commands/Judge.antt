-- What judge answers about a lawful record.
use Rattle.std.specs.Prelude.{◌≡◌}
use Rattle.arimaa_judge.specs.Texts.{text_of_lawful}
use Rattle.arimaa_cli.specs.declared.answer.Answer.{Answer}
use Rattle.arimaa_cli.specs.declared.answer.Answer.TheVariants.{Done}
use Rattle.arimaa_cli.specs.declared.record.Game.{Game}

-- what judge answers about a lawful record of this game: the number of its turns, and how it stands
abbrev pub IsJudgeAnswer : Game → Answer → Type 0
IsJudgeAnswer game a = a ≡ Done (text_of_lawful game.turns game.ending game.next)
