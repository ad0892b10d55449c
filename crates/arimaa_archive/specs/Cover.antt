-- The records of an archive have all of its lines.
use Rattle.std.specs.Prelude.{◌≡◌, ℕ, List, ◌++◌, not, length, count_by, filter}
use Rattle.std.specs.List.{flat_map}
use Rattle.arimaa_archive.specs.Archive.{is_game_line, lines_before_game, records_of}

-- the lines before the first record, and then those of the records in order, are all lines but
-- those that begin a record
abbrev pub KeepLines : Type 0
KeepLines =
    (lines : List (List ℕ))
    → lines_before_game lines ++ flat_map (λ lines_of_one. lines_of_one) (records_of lines)
    ≡ filter (λ line. not (is_game_line line)) lines

-- there are as many records as lines that begin one
abbrev pub CountLines : Type 0
CountLines = (lines : List (List ℕ)) → length (records_of lines) ≡ count_by is_game_line lines
