-- The parts of an input that has a text after a record, behind a line that says one word, and what
-- is answered about them.
use Rattle.std.specs.Prelude.{◌≡◌, ◌≤◌, ◌+◌, ◌⊎◌, ℕ, List, [], ◌∷◌, ◌++◌, Option, None, Some, length, take}
use Rattle.std.specs.List.{AllByRecursion}
use Rattle.arimaa_notation.specs.Items.{items_of}
use Rattle.arimaa_record.specs.Lines.{lines_of}
use Rattle.arimaa_cli.specs.declared.answer.Answer.{Answer}
use Rattle.arimaa_cli.specs.declared.answer.Answer.TheVariants.{Answered}
use Rattle.arimaa_cli.specs.declared.record.Game.{Game}
use Rattle.arimaa_cli.specs.Records.{IsRecordAnswer}
use Rattle.arimaa_cli.specs.Texts.{missing_text}

-- a line says a word, and has nothing else but blanks
abbrev pub Says : List ℕ → List ℕ → Type 0
Says word line = items_of line ≡ word ∷ []

-- bytes that end with a line: what comes after them begins a line of its own
abbrev pub AreWholeLines : List ℕ → Type 0
AreWholeLines bytes =
    (after : List ℕ) → lines_of (bytes ++ after) ≡ lines_of bytes ++ lines_of after

-- the first line has so many bytes with its end; it is a whole line, unless it is all that there is
pub record IsFirstLine (bytes : List ℕ) (size : ℕ) : Type 0 where
  pub some : 1 ≤ size
  pub within : size ≤ length bytes
  pub line : List ℕ
  pub alone : lines_of (take size bytes) ≡ line ∷ []
  pub whole : (size ≡ length bytes) ⊎ AreWholeLines (take size bytes)

-- no line of a text says a word
abbrev pub NoneSays : List ℕ → List ℕ → Type 0
NoneSays word text = AllByRecursion (λ line. ¬ Says word line) (lines_of text)

-- the lines of an input are those of a record, the first line that says a word, and those of the
-- text behind it
pub record IsParted (word given front text : List ℕ) : Type 0 where
  pub line : List ℕ
  pub lines : lines_of given ≡ lines_of front ++ line ∷ lines_of text
  pub first : NoneSays word front
  pub says : Says word line

-- an input is a record, and, where a line says a word, the text behind the first such line
abbrev pub IsMadeOf : List ℕ → List ℕ → List ℕ → Option (List ℕ) → Type 0
IsMadeOf word given front None = (given ≡ front) × NoneSays word given
IsMadeOf word given front (Some text) = IsParted word given front text

-- what is answered about the text behind a word, where this is what is answered about one that is
-- there
abbrev pub IsAnswerOn : List ℕ → (List ℕ → Answer → Type 0) → Option (List ℕ) → Answer → Type 0
IsAnswerOn word IsTold None a = a ≡ Answered (missing_text word)
IsAnswerOn word IsTold (Some text) a = IsTold text a

-- what is answered over an input of these bytes where this is what is answered about a text behind
-- so many lines, if there is one, and a lawful record's game
pub record IsPartedAnswer (word : List ℕ) (IsTold : ℕ → Option (List ℕ) → Game → Answer → Type 0)
    (given : List ℕ) (a : Answer) : Type 0 where
  pub front : List ℕ
  pub text : Option (List ℕ)
  pub made : IsMadeOf word given front text
  pub told : IsRecordAnswer front (IsTold (length (lines_of front) + 1) text) a
