-- How a run ends.
use Rattle.std.specs.Prelude.{◌≡◌, ◌≢◌, ◌<◌, ◌≤◌, ◌⊎◌, ℕ, Bool, true, false, List, [], Option, None, Some, IfSome, IsTrue, codes, length, option_map}
use Rattle.std.specs.List.{AllZip}
use Rattle.std.specs.Io.KnownBytes.{append_known}
use Rattle.arimaa_outside.specs.Writing.{EndsWith}
use Rattle.arimaa_judge.specs.Texts.{line}
use Rattle.arimaa_outside.specs.Faults.{HasRisen}
use Rattle.arimaa_outside.specs.declared.source.TheConstants.{INPUT_LIMIT}
use Rattle.arimaa_outside.specs.declared.status.Status.{Status}
use Rattle.arimaa_outside.specs.declared.status.Status.TheVariants.{Done, Answered, Words, ReadFault, WriteFault, Memory, TooLong}
use Rattle.arimaa_record.specs.Lines.{lines_of}
use Rattle.arimaa_archive.specs.declared.record_judgement.Told.{Told}
use Rattle.arimaa_archive.specs.Archive.{records_of, stray_line}
use Rattle.arimaa_archive.specs.Report.{text_of_report, text_of_stray}
use Rattle.arimaa_archive.specs.RecordJudgements.{IsTold}
use Rattle.arimaa_archive.specs.Words.{AreInForm, AreMisformed}

-- what is told of the records of an archive, one after another
abbrev pub AreTold : List ℕ → List Told → Type 0
AreTold given all = AllZip IsTold (records_of (lines_of given)) all

-- the status and the text for words over an archive of these bytes, the first of these that applies
pub data IsAnswer (words : List (List ℕ)) (given : List ℕ) : Status → List ℕ → Type 0 where
  -- the words are not in form; the input is not read
  bad_words : AreMisformed words → IsAnswer words given Words (line (codes "bad words"))
  -- the input has more bytes than are taken
  too_long : AreInForm words → INPUT_LIMIT < length given
      → IsAnswer words given TooLong (line (codes "too long"))
  -- a line with content belongs to no record: the first such line
  no_game : AreInForm words → length given ≤ INPUT_LIMIT → (number : ℕ)
      → stray_line (lines_of given) ≡ Some number
      → IsAnswer words given Answered (text_of_stray number)
  -- the report
  reported : AreInForm words → length given ≤ INPUT_LIMIT → stray_line (lines_of given) ≡ None
      → (all : List Told) → AreTold given all → IsAnswer words given Done (text_of_report all)

-- the bytes that an answer is about: what the source gives, or any bytes where none are read
abbrev pub IsInput : List (List ℕ) → Option (List ℕ) → List ℕ → Type 0
IsInput words given bytes = AreInForm words → given ≡ Some bytes

-- an answer that has this status was written whole
abbrev pub Tells : Status → List (List ℕ) → Option (List ℕ) → Option (List ℕ) → Option (List ℕ)
    → Type 0
Tells status words given before after =
    (bytes : List ℕ) → IsInput words given bytes
    → (text : List ℕ) × IsAnswer words bytes status text × (after ≡ append_known before text)

-- a run may end with this status
abbrev pub may_come : Status → Bool
may_come Done = true
may_come Answered = true
may_come Words = true
may_come ReadFault = true
may_come WriteFault = true
may_come Memory = true
may_come TooLong = true
may_come _ = false

-- what is answered, by the bytes that the source gives, and those that the sink has before and
-- after
pub record Answers (words : List (List ℕ)) (result : Status) (given before after : Option (List ℕ))
    : Type 0 where
  -- unless a read failed or memory ran out, an answer is written, whole unless a write failed
  pub answer : (bytes : List ℕ) → IsInput words given bytes
      → result ≢ ReadFault → result ≢ Memory
      → (status : Status) × (text : List ℕ) × IsAnswer words bytes status text
      × EndsWith result before after status text
  -- and no other: whatever is the answer over the bytes is written
  pub only : (bytes : List ℕ) → IsInput words given bytes → (status : Status) (text : List ℕ)
      → IsAnswer words bytes status text → result ≢ ReadFault → result ≢ Memory
      → EndsWith result before after status text
  -- status 0: the report
  pub done : result ≡ Done → Tells Done words given before after
  -- status 1: a line with content belongs to no record
  pub answered : result ≡ Answered → Tells Answered words given before after
  -- the words alone decide whether they are in form
  pub bad_words : result ≡ Words → AreMisformed words
  pub misworded : AreMisformed words → (result ≡ Words) ⊎ (result ≡ WriteFault)
  -- the statuses of other programs don't come
  pub others : IsTrue (may_come result)

-- what is read, by the bytes that the source gives before and after, and the counts of its faults
pub record Inputs (words : List (List ℕ)) (result : Status) (given left : Option (List ℕ))
    (faults now : ℕ) : Type 0 where
  -- the status of a failed read comes where a read failed in this run, and no other status does
  pub read_fault : result ≡ ReadFault → AreInForm words × HasRisen faults now
  pub unfailed : result ≢ ReadFault → now ≡ faults
  -- an input that is too long has too many bytes
  pub too_long : result ≡ TooLong
      → AreInForm words × IfSome given (λ bytes. INPUT_LIMIT < length bytes)
  -- an answer about the input says that it was read to its end
  pub whole : (result ≡ Done) ⊎ (result ≡ Answered) → left ≡ option_map (λ _. []) given
