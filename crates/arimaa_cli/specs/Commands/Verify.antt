-- What verify answers over an input: a record, a line that says escapes, and a text of escapes.
use Rattle.std.specs.Prelude.{◌+◌, ℕ, List, Option, Some, codes}
use Rattle.arimaa_board.specs.declared.position.Position.{Position}
use Rattle.arimaa_judge.specs.Texts.{line}
use Rattle.arimaa_model.specs.Game.{barred_by}
use Rattle.arimaa_record.specs.Lines.{lines_of}
use Rattle.arimaa_refute.specs.declared.escape.Escape.{Escape}
use Rattle.arimaa_refute.specs.declared.verify_answer.Flaw.{Flaw}
use Rattle.arimaa_refute.specs.declared.verify_answer.Flaw.TheVariants as flaw
use Rattle.arimaa_refute.specs.declared.verify_answer.Verified.{Verified}
use Rattle.arimaa_refute.specs.declared.verify_answer.Verified.TheVariants as verdict
use Rattle.arimaa_refute.specs.Checks.{HasRoom, IsVerified}
use Rattle.arimaa_refute.specs.Text.{IsEscapesText, IsFirstBadLine}
use Rattle.arimaa_cli.specs.declared.answer.Answer.{Answer}
use Rattle.arimaa_cli.specs.declared.answer.Answer.TheVariants.{Answered, Crowded, Done}
use Rattle.arimaa_cli.specs.declared.commands.check.Checking.{Checking}
use Rattle.arimaa_cli.specs.declared.record.Game.{Game}
use Rattle.arimaa_cli.specs.Commands.Check.{room_of}
use Rattle.arimaa_cli.specs.Commands.Prove.{IsOpenAt}
use Rattle.arimaa_cli.specs.Parts.{IsAnswerOn, IsMadeOf, IsPartedAnswer}
use Rattle.arimaa_cli.specs.Positions.{IsAnswerAt}
use Rattle.arimaa_cli.specs.Records.{IsGame}
use Rattle.arimaa_cli.specs.Texts.{bad_line_text, crowded_text, refused_text}

-- the word that parts an input
abbrev pub escapes_word : List ℕ
escapes_word = codes "escapes"

-- the word for a flaw of an escape
abbrev pub flaw_word : Flaw → List ℕ
flaw_word flaw.Twice = codes "twice"
flaw_word flaw.Decided = codes "decided"
flaw_word flaw.Turn = codes "turn"
flaw_word flaw.Lost = codes "lost"
flaw_word flaw.Reply = codes "reply"
flaw_word flaw.Root = codes "root"

-- the answer by what the checker of escapes finds
abbrev pub answer_of : Verified → Answer
answer_of verdict.Accepted = Done (line (codes "accepted"))
answer_of (verdict.Refused entry why) = Answered (refused_text entry (flaw_word why))
answer_of (verdict.Crowded q) = Crowded (crowded_text q 1)

-- what is answered about a text of escapes that comes after so many lines, at the position p that
-- the history h ends with: the first of these that applies
pub data IsEscapesAnswer (asked : Checking) (h : List Position) (p : Position) (lines : ℕ)
    (text : List ℕ) : Answer → Type 0 where
  -- a line is no escape: the first such line of the input
  bad_line : (number : ℕ) → IsFirstBadLine asked.attacker (lines_of text) number
      → IsEscapesAnswer asked h p lines text
      (Answered (bad_line_text escapes_word (lines + number)))
  -- what is found of the escapes; where they are accepted, the attacker doesn't win
  verified : (c : List Escape) → IsEscapesText text asked.attacker c → (found : Verified)
      → IsVerified asked.attacker (barred_by h) asked.depth (room_of asked.room) c p found
      → IsEscapesAnswer asked h p lines text (answer_of found)

-- what verify answers about a lawful record of this game, and a text of escapes that comes after
-- so many lines, if one does
abbrev pub IsTextAnswer : Checking → ℕ → Option (List ℕ) → Game → Answer → Type 0
IsTextAnswer asked lines text game =
    IsAnswerAt (λ p. IsAnswerOn escapes_word (IsEscapesAnswer asked game.history p lines) text) game

-- what verify answers over an input of these bytes
abbrev pub IsVerifyAnswer : Checking → List ℕ → Answer → Type 0
IsVerifyAnswer asked given a = IsPartedAnswer escapes_word (IsTextAnswer asked) given a

-- there is room for every list of replies that the checker of escapes asks for
pub record HasRoomToVerify (asked : Checking) (given : List ℕ) : Type 0 where
  pub room : (front text : List ℕ) (game : Game) (p : Position) (c : List Escape)
      → IsMadeOf escapes_word given front (Some text) → IsGame front game → IsOpenAt game p
      → IsEscapesText text asked.attacker c
      → HasRoom asked.attacker (barred_by game.history) asked.depth (room_of asked.room) c p
