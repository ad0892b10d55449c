-- The report on an archive.
use Rattle.std.specs.Prelude.{ℕ, ◌+◌, List, [], ◌∷◌, ◌++◌, codes, count_by, length}
use Rattle.std.specs.Fmt.{decimal}
use Rattle.arimaa_judge.specs.Texts.{line}
use Rattle.arimaa_archive.specs.declared.record_judgement.Told.{Told}
use Rattle.arimaa_archive.specs.RecordJudgements.{is_bad, is_lawful, text_of_told}

-- a record of this number: the line `game` with the number, and the text about it
abbrev pub text_of_record : ℕ → Told → List ℕ
text_of_record number told = line (codes "game " ++ decimal number) ++ text_of_told told

-- the records in order, the first of which has this number
abbrev pub text_of_records : ℕ → List Told → List ℕ
text_of_records number [] = []
text_of_records number (told ∷ later) =
    text_of_record number told ++ text_of_records (number + 1) later

-- how many records there are, and how many of them are lawful and bad
abbrev pub text_of_counts : List Told → List ℕ
text_of_counts all = line (codes "games " ++ decimal (length all)
    ++ codes " lawful " ++ decimal (count_by is_lawful all)
    ++ codes " bad " ++ decimal (count_by is_bad all))

-- the report: the records in order, counted from 1, and then how many there are
abbrev pub text_of_report : List Told → List ℕ
text_of_report all = text_of_records 1 all ++ text_of_counts all

-- what is written where a line with content, of this number, belongs to no record
abbrev pub text_of_stray : ℕ → List ℕ
text_of_stray number = line (codes "no game " ++ decimal number)
