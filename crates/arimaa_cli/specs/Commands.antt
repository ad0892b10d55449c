-- The commands: the words of each, what it reads, the calls that serve it, and what it answers.
pub mod Check
pub mod Control
pub mod Judge
pub mod Make
pub mod Prove
pub mod Verify
pub mod Refute
pub mod Show
use Rattle.std.specs.Prelude.{◌≡◌, ◌≢◌, ◌<◌, ◌≤◌, ◌-◌, ◌^◌, ℕ, List, [], ◌∷◌, Bool, true, false, not, IsTrue, Some, Ok, Err, codes, length, slice_get, slice_index}
use Rattle.std.specs.Fmt.{decimal}
use Rattle.arimaa_judge.specs.Texts.{side_word}
use Rattle.arimaa_outside.specs.declared.source.TheConstants.{INPUT_LIMIT}
use Rattle.arimaa_pool.specs.Limits.{AreWithinLimits}
use Rattle.arimaa_cli.specs.declared.answer.Answer.{Answer}
use Rattle.arimaa_cli.specs.declared.answer.Refusal.TheVariants.{Words, TooLong}
use Rattle.arimaa_cli.specs.declared.commands.make.TheConstants.{MOST_MADE}
use Rattle.arimaa_cli.specs.declared.commands.prove.TheConstants.{MOST_TURNS}
use Rattle.arimaa_cli.specs.declared.commands.Asking.{Asking}
use Rattle.arimaa_cli.specs.declared.commands.Asking.TheVariants as asking
use Rattle.arimaa_cli.specs.declared.commands.Call.{Call}
use Rattle.arimaa_cli.specs.declared.commands.Call.TheVariants.{Run, RunProve, RunStill}
use Rattle.arimaa_cli.specs.declared.commands.Command.{Command}
use Rattle.arimaa_cli.specs.declared.commands.Command.TheVariants as command
use Rattle.arimaa_cli.specs.declared.commands.Question.{Question}
use Rattle.arimaa_cli.specs.declared.commands.Question.TheVariants as question
use Rattle.arimaa_cli.specs.declared.commands.prove.Asked.{Asked}
use Rattle.arimaa_cli.specs.declared.record.Game.{Game}
use Rattle.arimaa_cli.specs.Answer.{Found}
use Rattle.arimaa_cli.specs.Options.{AreOptions, AreOptionsOfOne}
use Rattle.arimaa_cli.specs.Records.{IsAnswerAbout, IsRecord, IsRecordAnswer}
use Rattle.arimaa_cli.specs.Commands.Check.{IsCheckAnswer, IsCheckingInRange, checking_words}
use Rattle.arimaa_cli.specs.Commands.Control.{IsControlAnswer}
use Rattle.arimaa_cli.specs.Commands.Judge.{IsJudgeAnswer}
use Rattle.arimaa_cli.specs.Commands.Make.{IsMakeAnswer}
use Rattle.arimaa_cli.specs.Commands.Prove.{IsProveAnswer}
use Rattle.arimaa_cli.specs.Commands.Refute.{IsRefuteAnswer}
use Rattle.arimaa_cli.specs.Commands.Show.{IsShowAnswer}
use Rattle.arimaa_cli.specs.Commands.Verify.{IsVerifyAnswer}

-- ---- words

-- so many words, the first of which is this name
pub record IsNamed (words : List (List ℕ)) (name : List ℕ) (count : ℕ) : Type 0 where
  pub first : slice_get words 0 ≡ Some name
  pub size : length words ≡ count

-- a word that may stand for a text: it isn't empty, and begins with no dash
pub record IsTextWord (word : List ℕ) : Type 0 where
  pub some : 0 < length word
  pub no_dash : slice_index word 0 ≢ 45

-- the words of prove: its name, a side, a number of turns, and options
pub record AreProveWords (words : List (List ℕ)) (asked : Asked) : Type 0 where
  pub options : List (List ℕ)
  pub form : words ≡ codes "prove" ∷ side_word asked.attacker ∷ decimal asked.depth ∷ options
  pub set : AreOptions options asked.settings

-- the words of refute: its name, a side, a number of turns, and options for one worker
pub record AreRefuteWords (words : List (List ℕ)) (asked : Asked) : Type 0 where
  pub options : List (List ℕ)
  pub form : words ≡ codes "refute" ∷ side_word asked.attacker ∷ decimal asked.depth ∷ options
  pub set : AreOptionsOfOne options asked.settings

-- the words have the form of a command's
abbrev pub HaveForm : List (List ℕ) → Command → Type 0
HaveForm words (command.About question.Judge) = words ≡ codes "judge" ∷ []
HaveForm words (command.About question.Show) = words ≡ codes "show" ∷ []
HaveForm words (command.Prove asked) = AreProveWords words asked
HaveForm words (command.Check asked) = words ≡ checking_words (codes "check") asked
HaveForm words (command.Refute asked) = AreRefuteWords words asked
HaveForm words (command.Verify asked) = words ≡ checking_words (codes "verify") asked
HaveForm words (command.Control text) = words ≡ codes "control" ∷ text ∷ []
HaveForm words (command.Make asked) =
    words ≡ codes "make" ∷ decimal asked.number ∷ decimal asked.turns ∷ []

-- the values of a command are in their ranges
abbrev pub IsInRange : Command → Type 0
IsInRange (command.About q) = Unit {0}
IsInRange (command.Prove asked) = (asked.depth ≤ MOST_TURNS) × AreWithinLimits asked.settings
IsInRange (command.Check asked) = IsCheckingInRange asked
IsInRange (command.Refute asked) = (asked.depth ≤ MOST_TURNS) × AreWithinLimits asked.settings
IsInRange (command.Verify asked) = IsCheckingInRange asked
IsInRange (command.Control text) = IsTextWord text
IsInRange (command.Make asked) = (asked.number ≤ 2 ^ 64 - 1) × (asked.turns ≤ MOST_MADE)

-- the words are those of a command
pub record AreWords (words : List (List ℕ)) (c : Command) : Type 0 where
  pub form : HaveForm words c
  pub in_range : IsInRange c

-- ---- calls

-- the command is prove
abbrev pub is_prove : Command → Bool
is_prove (command.Prove asked) = true
is_prove _ = false

-- a call serves a command
abbrev pub serves : Call → Command → Bool
serves Run c = true
serves RunProve c = is_prove c
serves RunStill c = not (is_prove c)

-- the words ask a call for a command
pub record Asks (call : Call) (words : List (List ℕ)) (c : Command) : Type 0 where
  pub in_form : AreWords words c
  pub served : IsTrue (serves call c)

-- the words ask a call for nothing that it serves
abbrev pub AsksNothing : Call → List (List ℕ) → Type 0
AsksNothing call words = (c : Command) → Asks call words c → ⊥

-- a command reads the input
abbrev pub Reads : Command → Type 0
Reads (command.Control text) = ⊥
Reads (command.Make asked) = ⊥
Reads _ = Unit {0}

-- a command may stop short, since its budget or its room is limited
abbrev pub IsLimited : Command → Type 0
IsLimited (command.Prove asked) = Unit {0}
IsLimited (command.Check asked) = Unit {0}
IsLimited (command.Refute asked) = Unit {0}
IsLimited (command.Verify asked) = Unit {0}
IsLimited _ = ⊥

-- ---- answers

-- what a question is answered about the game of a lawful record
abbrev pub IsGameAnswer : Question → Game → Answer → Type 0
IsGameAnswer question.Judge game a = IsJudgeAnswer game a
IsGameAnswer question.Show game a = IsShowAnswer game a

-- what a command is answered over an input of these bytes
abbrev pub IsAnswerOf : List ℕ → Command → Answer → Type 0
IsAnswerOf given (command.About q) a = IsRecordAnswer given (IsGameAnswer q) a
IsAnswerOf given (command.Prove asked) a = IsRecordAnswer given (IsProveAnswer asked) a
IsAnswerOf given (command.Check asked) a = IsCheckAnswer asked given a
IsAnswerOf given (command.Refute asked) a = IsRecordAnswer given (IsRefuteAnswer asked) a
IsAnswerOf given (command.Verify asked) a = IsVerifyAnswer asked given a
IsAnswerOf given (command.Control text) a = IsControlAnswer text a
IsAnswerOf given (command.Make asked) a = IsMakeAnswer asked a

-- the command that is asked
abbrev pub command_of : Asking → Command
command_of (asking.About q found) = command.About q
command_of (asking.Prove asked found) = command.Prove asked
command_of (asking.Check asked bytes) = command.Check asked
command_of (asking.Refute asked found) = command.Refute asked
command_of (asking.Verify asked bytes) = command.Verify asked
command_of (asking.Control text) = command.Control text
command_of (asking.Make asked) = command.Make asked

-- what is asked is asked about an input of these bytes
abbrev pub IsAbout : List ℕ → Asking → Type 0
IsAbout given (asking.About q found) = IsRecord given found
IsAbout given (asking.Prove asked found) = IsRecord given found
IsAbout given (asking.Check asked bytes) = bytes.items ≡ given
IsAbout given (asking.Refute asked found) = IsRecord given found
IsAbout given (asking.Verify asked bytes) = bytes.items ≡ given
IsAbout given _ = Unit {0}

-- what is answered where this is asked
abbrev pub IsAnswerTo : Asking → Answer → Type 0
IsAnswerTo (asking.About q found) a = IsAnswerAbout (IsGameAnswer q) found a
IsAnswerTo (asking.Prove asked found) a = IsAnswerAbout (IsProveAnswer asked) found a
IsAnswerTo (asking.Check asked bytes) a = IsCheckAnswer asked bytes.items a
IsAnswerTo (asking.Refute asked found) a = IsAnswerAbout (IsRefuteAnswer asked) found a
IsAnswerTo (asking.Verify asked bytes) a = IsVerifyAnswer asked bytes.items a
IsAnswerTo (asking.Control text) a = IsControlAnswer text a
IsAnswerTo (asking.Make asked) a = IsMakeAnswer asked a

-- what a call finds for words over an input of these bytes, the first of these that applies
pub data IsAnswer (call : Call) (words : List (List ℕ)) (given : List ℕ) : Found → Type 0 where
  -- the words ask for nothing that the call serves
  bad_words : AsksNothing call words → IsAnswer call words given (Err Words)
  -- a command that reads the input, which has more bytes than are taken
  too_long : (c : Command) → Asks call words c → Reads c → INPUT_LIMIT < length given
      → IsAnswer call words given (Err TooLong)
  -- a command that the call serves
  asked : (c : Command) → Asks call words c → (Reads c → length given ≤ INPUT_LIMIT)
      → (a : Answer) → IsAnswerOf given c a → IsAnswer call words given (Ok a)
