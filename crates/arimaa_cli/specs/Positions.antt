-- What is answered about the position that a game stands at.
use Rattle.std.specs.Prelude.{◌≡◌, ℕ, List, None, Some, codes}
use Rattle.arimaa_board.specs.declared.ending.Word.{Word}
use Rattle.arimaa_board.specs.declared.position.Position.{Position}
use Rattle.arimaa_judge.specs.Texts.{line}
use Rattle.arimaa_model.specs.Game.{present}
use Rattle.arimaa_cli.specs.declared.answer.Answer.{Answer}
use Rattle.arimaa_cli.specs.declared.answer.Answer.TheVariants.{Answered}
use Rattle.arimaa_cli.specs.declared.record.Game.{Game}
use Rattle.arimaa_cli.specs.Commands.Prove.{IsOpenAt, closing_word, ended_text}

-- the text about a game that stands at no position that may be asked about
pub data IsUnasked (game : Game) : List ℕ → Type 0 where
  -- a word closed the record
  closed : (word : Word) → closing_word game.ending ≡ Some word
      → IsUnasked game (ended_text word)
  -- there is no position yet
  no_position : closing_word game.ending ≡ None → present game.history ≡ None
      → IsUnasked game (line (codes "no position"))

-- what is answered about a lawful record of this game where this is what is answered about the
-- position that it ends with
pub data IsAnswerAt (IsTold : Position → Answer → Type 0) (game : Game) : Answer → Type 0 where
  -- there is no position that may be asked about
  unasked : (text : List ℕ) → IsUnasked game text → IsAnswerAt IsTold game (Answered text)
  -- no word closed the record, and there is one
  told : (p : Position) → IsOpenAt game p → (a : Answer) → IsTold p a → IsAnswerAt IsTold game a
