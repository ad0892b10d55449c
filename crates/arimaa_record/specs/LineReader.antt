-- Lines that are read from a source one after another.
use Rattle.std.specs.Prelude.{◌≡◌, ◌↔◌, ◌≤◌, ◌<◌, ℕ, ◌+◌, Bool, true, false, List, [], ◌∷◌, ◌++◌, Option, None, Some, Result, Ok, Err, All, IfOk, IfSome, IsErrOf, length, if◌then◌else◌}
use Rattle.std.specs.Io.KnownBytes.{IsAtEnd, prepend_known}
use Rattle.std.specs.Str.Lines.{strip_carriage_return}
use denote.Ref.{Bor}
use Rattle.arimaa_outside.specs.declared.source.ReadAll.{ReadAll}
use Rattle.arimaa_outside.specs.declared.source.ReadAll.TheVariants.{Fault, TooLong, Memory}
use Rattle.arimaa_outside.specs.declared.source.TheConstants.{INPUT_LIMIT}
use Rattle.arimaa_record.specs.declared.line_reader.LineReader.{LineReader}
use Rattle.arimaa_record.specs.Lines.{is_feed, lines_of}

-- no byte of these is a line feed
abbrev pub HasNoFeed : List ℕ → Type 0
HasNoFeed bytes = All (λ b. is_feed b ≡ false) bytes

-- a reader that has taken nothing
pub record IsNew (reader : LineReader) : Type 0 where
  pub held : reader.held ≡ []
  pub taken : reader.taken ≡ 0
  pub open_input : reader.is_ended ≡ false
  pub sound : reader.has_failed ≡ false

-- the bytes to come: those that the reader holds, and then those that the source has left, where it
-- tells
abbrev pub to_come : LineReader → Option (List ℕ) → Option (List ℕ)
to_come reader left = prepend_known reader.held left

-- In a call bytes came from the source, and bytes are gone from the reader: the first of those that
-- it held and of those that came after them. It counts all that came, and holds 4,096 at most.
pub record Takes (before after : LineReader) (left now : Option (List ℕ)) : Type 0 where
  pub came : List ℕ
  pub gone : List ℕ
  pub told : left ≡ prepend_known came now
  pub kept : before.held ++ came ≡ gone ++ after.held
  pub counted : after.taken ≡ before.taken + length came
  pub room : length after.held ≤ 4096

-- these bytes have this first line, and the lines after it are those of what is to come later
abbrev pub IsFirstLine : Option (List ℕ) → List ℕ → Option (List ℕ) → Type 0
IsFirstLine bytes line later = IfSome bytes (λ bs. IfSome later (λ rest.
    lines_of bs ≡ line ∷ lines_of rest))

-- a read or the memory has failed
abbrev pub is_failure : Result (Option (List ℕ)) ReadAll → Bool
is_failure (Ok given) = false
is_failure (Err Fault) = true
is_failure (Err TooLong) = false
is_failure (Err Memory) = true

-- a line that is given: it is the first of the bytes to come, and some bytes are gone with it
pub record GivesLine (before after : LineReader) (left now : Option (List ℕ)) (line : List ℕ)
    : Type 0 where
  pub first : IsFirstLine (to_come before left) line (to_come after now)
  pub shorter : before.taken + length after.held + 1 ≤ after.taken + length before.held

-- what a call for a line does where no end came before it: the line that it gives is the first of
-- the bytes to come, and none is given exactly where no byte is to come; too long is the input
-- exactly where more bytes than the limit were taken
pub record Advances (before after : LineReader) (left now : Option (List ℕ))
    (given : Result (Option (List ℕ)) ReadAll) : Type 0 where
  pub takes : Takes before after left now
  pub line : IfOk given (λ o. IfSome o (GivesLine before after left now))
  pub none : given ≡ Ok None → IsAtEnd (to_come before left) × (after.is_ended ≡ true)
  pub ended : after.is_ended ≡ true → IsAtEnd (to_come after now)
  pub too_long : IsErrOf given TooLong ↔ (INPUT_LIMIT < after.taken)
  pub failed : after.has_failed ≡ is_failure given

-- what a call for a line does after the end: nothing, and it gives none
pub record StaysEnded (before after : LineReader) (left now : Option (List ℕ))
    (given : Result (Option (List ℕ)) ReadAll) : Type 0 where
  pub none : given ≡ Ok None
  pub reader : after ≡ before
  pub source : now ≡ left

-- what a call for a line does
pub record IsNext (before after : LineReader) (left now : Option (List ℕ))
    (given : Result (Option (List ℕ)) ReadAll) : Type 0 where
  pub open_input : before.is_ended ≡ false → Advances before after left now given
  pub ended : before.is_ended ≡ true → StaysEnded before after left now given

-- a line that is lent, by its bytes
abbrev pub given_bytes : Result (Option (Bor (List ℕ))) ReadAll
    → Result (Option (List ℕ)) ReadAll
given_bytes (Ok (Some line)) = Ok (Some line.now)
given_bytes (Ok None) = Ok None
given_bytes (Err error) = Err error

-- whether a line is in hand, with the line without its end
abbrev pub given_line : List ℕ → Result Bool ReadAll → Result (Option (List ℕ)) ReadAll
given_line line (Ok true) = Ok (Some (strip_carriage_return line))
given_line line (Ok false) = Ok None
given_line line (Err error) = Err error

-- the bytes of a line were gathered, up to a line feed or to the end of the input
pub record Gathers (before after : LineReader) (left now : Option (List ℕ)) (ended : Bool)
    : Type 0 where
  pub came : List ℕ
  pub told : left ≡ prepend_known came now
  pub kept : before.held ++ came ≡ after.line.items ++ (if ended then [] else 10 ∷ after.held)
  pub counted : after.taken ≡ before.taken + length came
  pub room : length after.held ≤ 4096
  pub no_feed : HasNoFeed after.line.items
  pub end : ended ≡ true → (after.held ≡ []) × IsAtEnd now

-- the bytes before the first line feed were moved to the end of a line, and the feed passed, or all
-- of them, where none is a line feed
pub record IsPiece (held rest line longer : List ℕ) (fed : Bool) : Type 0 where
  pub piece : List ℕ
  pub no_feed : HasNoFeed piece
  pub moved : longer ≡ line ++ piece
  pub cut : held ≡ piece ++ (if fed then 10 ∷ rest else [])
  pub all : fed ≡ false → rest ≡ []
