-- What check answers over an input: a record, a line that says strategy, and a strategy's text.
use Rattle.std.specs.Prelude.{◌≡◌, ◌≤◌, ◌+◌, ℕ, List, [], ◌∷◌, ◌++◌, Option, None, Some, codes, drop, length, slice_get}
use Rattle.std.specs.Fmt.{decimal}
use Rattle.arimaa_board.specs.declared.position.Position.{Position}
use Rattle.arimaa_forced.specs.declared.entry.Entry.{Entry}
use Rattle.arimaa_judge.specs.Texts.{line, side_word}
use Rattle.arimaa_board.specs.declared.ending.Word.{Word}
use Rattle.arimaa_model.specs.Game.{barred_by, present}
use Rattle.arimaa_record.specs.Lines.{lines_of}
use Rattle.arimaa_strategy.specs.declared.check_answer.Checked.{Checked}
use Rattle.arimaa_strategy.specs.declared.check_answer.Checked.TheVariants as checks
use Rattle.arimaa_strategy.specs.declared.check_answer.Why.{Why}
use Rattle.arimaa_strategy.specs.declared.check_answer.Why.TheVariants as why
use Rattle.arimaa_strategy.specs.Checks.{HasRoom, IfAccepted, IsChecked, IsWonBy}
use Rattle.arimaa_strategy.specs.Text.{IsFirstBadLine, IsStrategyText}
use Rattle.arimaa_cli.specs.declared.answer.Answer.{Answer}
use Rattle.arimaa_cli.specs.declared.answer.Answer.TheVariants.{Answered, Crowded, Done}
use Rattle.arimaa_cli.specs.declared.commands.check.Checking.{Checking}
use Rattle.arimaa_cli.specs.declared.commands.check.TheConstants.{MOST_ROOM, USUAL_ROOM}
use Rattle.arimaa_cli.specs.declared.commands.prove.TheConstants.{MOST_TURNS}
use Rattle.arimaa_cli.specs.declared.record.Game.{Game}
use Rattle.arimaa_cli.specs.Parts.{IsMadeOf, IsPartedAnswer}
use Rattle.arimaa_cli.specs.Records.{IsGame}
use Rattle.arimaa_cli.specs.Texts.{bad_line_text, crowded_text, missing_text, refused_text}
use Rattle.arimaa_cli.specs.Commands.Prove.{IsOpenAt, closing_word, ended_text}

-- ---- words

-- a number of positions that room may be asked for
pub record IsRoom (room : ℕ) : Type 0 where
  pub some : 1 ≤ room
  pub most : room ≤ MOST_ROOM

-- a room, where one is given, is in its range
abbrev pub IsRoomGiven : Option ℕ → Type 0
IsRoomGiven None = Unit {0}
IsRoomGiven (Some room) = IsRoom room

-- the room that is given, or the usual one
abbrev pub room_of : Option ℕ → ℕ
room_of None = USUAL_ROOM
room_of (Some room) = room

-- the words that give a room
abbrev pub room_words : Option ℕ → List (List ℕ)
room_words None = []
room_words (Some room) = codes "--room" ∷ decimal room ∷ []

-- the words are a command's name, two more, and those that give a room
pub record EndWithRoom (name : List ℕ) (words : List (List ℕ)) (room : Option ℕ) : Type 0 where
  pub in_range : IsRoomGiven room
  pub named : slice_get words 0 ≡ Some name
  pub some : 3 ≤ length words
  pub last : drop 3 words ≡ room_words room

-- the words after a command's name: a side, a number of turns, and maybe a room
abbrev pub checking_words : List ℕ → Checking → List (List ℕ)
checking_words name asked =
    name ∷ side_word asked.attacker ∷ decimal asked.depth ∷ room_words asked.room

-- number of turns and room are in their ranges
abbrev pub IsCheckingInRange : Checking → Type 0
IsCheckingInRange asked = (asked.depth ≤ MOST_TURNS) × IsRoomGiven asked.room

-- the words ask this of a command of this name
pub record AreCheckingWords (name : List ℕ) (words : List (List ℕ))
    (asked : Checking) : Type 0 where
  pub form : words ≡ checking_words name asked
  pub in_range : IsCheckingInRange asked

-- ---- the answer

-- the word that parts an input
abbrev pub strategy_word : List ℕ
strategy_word = codes "strategy"

-- the word for a fault of a strategy
abbrev pub why_word : Why → List ℕ
why_word why.Twice = codes "twice"
why_word why.Decided = codes "decided"
why_word why.Turn = codes "turn"
why_word why.Lost = codes "lost"
why_word why.Reply = codes "reply"
why_word why.Rank = codes "rank"
why_word why.Root = codes "root"
why_word why.Deep = codes "deep"

-- an accepted strategy: the rank of its root
abbrev pub accepted_text : ℕ → List ℕ
accepted_text rank = line (codes "accepted " ++ decimal rank)

-- the answer by what the checker finds
abbrev pub answer_of : Checked → Answer
answer_of (checks.Accepted rank) = Done (accepted_text rank)
answer_of (checks.Refused entry why) = Answered (refused_text entry (why_word why))
answer_of (checks.Crowded p) = Crowded (crowded_text p 1)

-- what the checker finds of a strategy s at the position p that the history h ends with; what it
-- accepts wins every play that goes on after h
pub record IsFound (asked : Checking) (h : List Position) (p : Position) (s : List Entry)
    (found : Checked) : Type 0 where
  pub right : IsChecked asked.attacker (barred_by h) asked.depth (room_of asked.room) s p found
  pub wins : IfAccepted found (λ rank. IsWonBy asked.attacker h s rank)

-- what check answers about a lawful record of this game, and a strategy's text that comes after so
-- many lines, if one does: the first of these that applies
pub data IsStrategyAnswer (asked : Checking) (game : Game) (lines : ℕ)
    : Option (List ℕ) → Answer → Type 0 where
  -- a word closed the record
  closed : (text : Option (List ℕ)) (word : Word) → closing_word game.ending ≡ Some word
      → IsStrategyAnswer asked game lines text (Answered (ended_text word))
  -- there is no position yet
  no_position : (text : Option (List ℕ)) → closing_word game.ending ≡ None
      → present game.history ≡ None
      → IsStrategyAnswer asked game lines text (Answered (line (codes "no position")))
  -- no line says strategy
  no_strategy : (p : Position) → IsOpenAt game p
      → IsStrategyAnswer asked game lines None (Answered (missing_text strategy_word))
  -- a line is no entry: the first such line of the input
  bad_line : (p : Position) → IsOpenAt game p → (text : List ℕ) (number : ℕ)
      → IsFirstBadLine asked.attacker (lines_of text) number
      → IsStrategyAnswer asked game lines (Some text)
      (Answered (bad_line_text strategy_word (lines + number)))
  -- a strategy: what the checker finds
  checked : (p : Position) → IsOpenAt game p → (text : List ℕ) (s : List Entry)
      → IsStrategyText text asked.attacker s → (found : Checked)
      → IsFound asked game.history p s found
      → IsStrategyAnswer asked game lines (Some text) (answer_of found)

-- what check answers over an input of these bytes: what is answered about its record
abbrev pub IsCheckAnswer : Checking → List ℕ → Answer → Type 0
IsCheckAnswer asked given a =
    IsPartedAnswer strategy_word (λ lines text game. IsStrategyAnswer asked game lines text) given a

-- there is room for every list of replies that the checker asks for
pub record HasRoomFor (asked : Checking) (given : List ℕ) : Type 0 where
  pub room : (front text : List ℕ) (game : Game) (p : Position) (s : List Entry)
      → IsMadeOf strategy_word given front (Some text) → IsGame front game → IsOpenAt game p
      → IsStrategyText text asked.attacker s
      → HasRoom asked.attacker (barred_by game.history) (room_of asked.room) s p
