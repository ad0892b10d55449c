-- The lines of an input.
use Rattle.std.specs.Prelude.{ℕ, ◌==◌, Bool, List, [], ◌∷◌, length, if◌then◌else◌}
use Rattle.std.specs.List.{slice_split}
use Rattle.std.specs.Str.Lines.{strip_carriage_return}

-- a line feed
abbrev pub is_feed : ℕ → Bool
is_feed b = b == 10

-- the lines of what stands between line feeds: each loses one carriage return at its end, and an
-- empty last piece is no line
abbrev pub lines_of_pieces : List (List ℕ) → List (List ℕ)
lines_of_pieces [] = []
lines_of_pieces (last ∷ []) = if length last == 0 then [] else strip_carriage_return last ∷ []
lines_of_pieces (piece ∷ next ∷ more) = strip_carriage_return piece ∷ lines_of_pieces (next ∷ more)

-- the lines of an input in order, without their ends; the last may lack its line feed
unfoldable pub lines_of : List ℕ → List (List ℕ)
lines_of bytes = lines_of_pieces (slice_split is_feed bytes)
