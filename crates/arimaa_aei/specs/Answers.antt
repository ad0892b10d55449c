-- What the lines of an engine say.
use Rattle.std.specs.Prelude.{ℕ, List, [], ◌∷◌, Option, None, Some}
use Rattle.arimaa_notation.specs.Items.{after_word, without_outer_blanks, word_of}
use Rattle.arimaa_aei.specs.declared.answer.Answer.{Answer}
use Rattle.arimaa_aei.specs.declared.answer.Answer.TheVariants as answer
use Rattle.arimaa_aei.specs.declared.words.AnswerWord.{AnswerWord}
use Rattle.arimaa_aei.specs.declared.words.AnswerWord.TheVariants as word
use Rattle.arimaa_aei.specs.Words.{answer_word_of}

-- what an engine says, with the text after the first word where that matters
pub data Spoken : Type 0 where
  Version : List ℕ → Spoken
  Id : List ℕ → Spoken
  AeiOk : Spoken
  ReadyOk : Spoken
  BestMove : List ℕ → Spoken
  Info : List ℕ → Spoken
  Log : List ℕ → Spoken
  Other : Spoken

-- what is said only where no text follows the word
abbrev pub alone : List ℕ → Spoken → Spoken
alone [] said = said
alone (b ∷ bs) said = Other

-- what a first word says with the text after it
abbrev pub said_by : Option AnswerWord → List ℕ → Spoken
said_by (Some word.Version) text = Version text
said_by (Some word.Id) text = Id text
said_by (Some word.AeiOk) text = alone text AeiOk
said_by (Some word.ReadyOk) text = alone text ReadyOk
said_by (Some word.BestMove) text = BestMove text
said_by (Some word.Info) text = Info text
said_by (Some word.Log) text = Log text
said_by None text = Other

-- what an engine's line says: its first word decides, and the text has no blanks at its ends
unfoldable pub speech_of_line : List ℕ → Spoken
speech_of_line line = said_by (answer_word_of (word_of line))
    (without_outer_blanks (after_word line))

-- what an answer of the reader stands for
abbrev pub spoken_of : Answer → Spoken
spoken_of (answer.Version text) = Version text.now
spoken_of (answer.Id text) = Id text.now
spoken_of answer.AeiOk = AeiOk
spoken_of answer.ReadyOk = ReadyOk
spoken_of (answer.BestMove text) = BestMove text.now
spoken_of (answer.Info text) = Info text.now
spoken_of (answer.Log text) = Log text.now
spoken_of answer.Other = Other
