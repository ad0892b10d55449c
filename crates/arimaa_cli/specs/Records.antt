-- What is answered about the record that the input is.
use Rattle.std.specs.Prelude.{◌≡◌, ℕ, List}
use Rattle.arimaa_judge.specs.declared.judgement.Judged.TheVariants as judgement
use Rattle.arimaa_judge.specs.declared.rule.Rule.{Rule}
use Rattle.arimaa_judge.specs.Judgement.{IsJudged}
use Rattle.arimaa_judge.specs.Texts.{text_of_bad}
use Rattle.arimaa_record.specs.declared.label.Label.{Label}
use Rattle.arimaa_cli.specs.declared.answer.Answer.{Answer}
use Rattle.arimaa_cli.specs.declared.answer.Answer.TheVariants.{Answered}
use Rattle.arimaa_cli.specs.declared.record.Game.{Game}
use Rattle.arimaa_cli.specs.declared.record.Record.{Record}
use Rattle.arimaa_cli.specs.declared.record.Record.TheVariants.{Bad, Lawful}

-- the bytes are a bad record: the number of its first bad line, the label that is due there, and
-- the first rule that it breaks, as text
pub record IsBad (given text : List ℕ) : Type 0 where
  pub number : ℕ
  pub due : Label
  pub rule : Rule
  pub judged : IsJudged given (judgement.Bad number due rule)
  pub told : text ≡ text_of_bad number due rule

-- the bytes are a lawful record of this game
abbrev pub IsGame : List ℕ → Game → Type 0
IsGame given game = IsJudged given (judgement.Lawful game.history game.turns game.ending game.next)

-- the bytes are this record
abbrev pub IsRecord : List ℕ → Record → Type 0
IsRecord given (Bad text) = IsBad given text
IsRecord given (Lawful game) = IsGame given game

-- what is answered about a record where this is what is answered about a lawful record's game: the
-- first fault of a bad one
abbrev pub IsAnswerAbout : (Game → Answer → Type 0) → Record → Answer → Type 0
IsAnswerAbout IsAnswered (Bad text) a = a ≡ Answered text
IsAnswerAbout IsAnswered (Lawful game) a = IsAnswered game a

-- what is answered over an input of these bytes where this is what is answered about a lawful
-- record's game
pub data IsRecordAnswer (given : List ℕ) (IsAnswered : Game → Answer → Type 0) : Answer
    → Type 0 where
  -- a bad record: its first fault
  bad : (text : List ℕ) → IsBad given text → IsRecordAnswer given IsAnswered (Answered text)
  -- a lawful record
  lawful : (game : Game) → IsGame given game → (a : Answer) → IsAnswered game a
      → IsRecordAnswer given IsAnswered a
