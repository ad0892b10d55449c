-- What is told of a record: its judgement without the positions of its game.
use Rattle.std.specs.Prelude.{◌≡◌, ℕ, Bool, true, false, not, List}
use Rattle.arimaa_judge.specs.declared.judgement.Judged.{Judged}
use Rattle.arimaa_judge.specs.declared.judgement.Judged.TheVariants as judgement
use Rattle.arimaa_judge.specs.Judgement.{IsJudgedFrom}
use Rattle.arimaa_judge.specs.RecordState.{before_lines}
use Rattle.arimaa_judge.specs.Texts.{text_of_bad, text_of_lawful}
use Rattle.arimaa_archive.specs.declared.parts.Part.{Part}
use Rattle.arimaa_archive.specs.declared.record_judgement.Told.{Told}
use Rattle.arimaa_archive.specs.declared.record_judgement.Told.TheVariants.{Lawful, Bad}
use Rattle.arimaa_archive.specs.Archive.{lines_of_part}

-- what is told of a judgement
abbrev pub told_of : Judged → Told
told_of (judgement.Lawful history turns ending next) = Lawful turns ending next
told_of (judgement.Bad line label rule) = Bad line label rule

-- this is told of a record of these lines: they are judged so, counted from 1
pub record IsTold (lines : List (List ℕ)) (told : Told) : Type 0 where
  pub judged : Judged
  pub judgement : IsJudgedFrom before_lines 1 lines judged
  pub value : told ≡ told_of judged

-- this is told of the record that a part of the bytes is
abbrev pub IsToldOfPart : List ℕ → Part → Told → Type 0
IsToldOfPart bytes part told = IsTold (lines_of_part bytes part) told

-- the text about a record: that of its judgement
abbrev pub text_of_told : Told → List ℕ
text_of_told (Lawful turns ending next) = text_of_lawful turns ending next
text_of_told (Bad line label rule) = text_of_bad line label rule

-- the record is lawful
abbrev pub is_lawful : Told → Bool
is_lawful (Lawful turns ending next) = true
is_lawful (Bad line label rule) = false

-- the record is bad
abbrev pub is_bad : Told → Bool
is_bad told = not (is_lawful told)
