-- No line of an archive is lost, and none comes twice.
use Rattle.std.proofs.Common.{◌≡◌, ℕ, ◌+◌, Bool, true, false, List, [], ◌∷◌, ◌++◌, length, refl, sym, ◌∙◌, ap, arith, cond}
use Rattle.std.specs.Prelude.{not, if◌then◌else◌}
use Rattle.std.specs.List.{flat_map}
use Rattle.std.proofs.lemmas.List.Sums.{sum_by-cons}
use Rattle.arimaa_archive.specs.Archive.{is_game_line, lines_before_game, records_of}
use Rattle.arimaa_archive.specs.Cover.{CountLines, KeepLines}

-- one line more, that begins a record or not
one_line : (begins : Bool) (line : List ℕ) (before kept : List (List ℕ))
    (records : List (List (List ℕ)))
    → before ++ flat_map (λ lines_of_one. lines_of_one) records ≡ kept
    → (if begins then [] else line ∷ before)
    ++ flat_map (λ lines_of_one. lines_of_one) (if begins then before ∷ records else records)
    ≡ cond (not begins) (line ∷ kept) kept
one_line true line before kept records e = e
one_line false line before kept records e = ap (λ x. line ∷ x) e

pub keep_lines : KeepLines
keep_lines [] = refl
keep_lines (line ∷ lines) =
    one_line (is_game_line line) line (lines_before_game lines) _ (records_of lines) (keep_lines lines)

-- one record more, where the line begins one
one_count : (begins : Bool) (before : List (List ℕ)) (records : List (List (List ℕ))) (n : ℕ)
    → length records ≡ n
    → length (if begins then before ∷ records else records) ≡ cond begins 1 0 + n
one_count true before records n e = omega arith
one_count false before records n e = omega arith

pub count_lines : CountLines
count_lines [] = refl
count_lines (line ∷ lines) =
    one_count (is_game_line line) (lines_before_game lines) (records_of lines) _ (count_lines lines)
    ∙ sym (sum_by-cons (λ x. cond (is_game_line x) 1 0) line lines)
