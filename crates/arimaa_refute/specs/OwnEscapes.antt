-- The escapes of a position that is not won: what the defender plays at each position that he may
-- then meet.
use Rattle.std.specs.Prelude.{◌≡◌, ℕ, zero, suc, ◌-◌, Bool, false, not, ◌&&◌, List, [], ◌∷◌, ◌++◌, map, Option, None, Some, is_none, if◌then◌else◌}
use Rattle.std.specs.List.{find, filter, flat_map}
use Rattle.std.specs.Option.{unwrap_or}
use Rattle.arimaa_board.specs.declared.piece.Color.{Color}
use Rattle.arimaa_board.specs.Board.{same_color}
use Rattle.arimaa_board.specs.declared.position.Position.{Position}
use Rattle.arimaa_board.specs.declared.position.Step.{Step}
use Rattle.arimaa_model.specs.DecidedPositions.{decided}
use Rattle.arimaa_model.specs.Results.{stands_in, result_of, turn_lists, next}
use Rattle.arimaa_model.specs.Wins.{wins}
use Rattle.arimaa_model.specs.Strategies.{open_replies, open_after}
use Rattle.arimaa_forced.specs.Entries.{steps_with_marks}
use Rattle.arimaa_refute.specs.declared.escape.Escape.{Escape}

-- the defender is to move at an undecided position that is not won within d turns
pub record IsUnwon (a : Color) (barred : List Position) (d : ℕ) (p : Position) : Type 0 where
  pub side : same_color p.side a ≡ false
  pub undecided : decided p ≡ None
  pub lost : wins a barred d p ≡ false

-- whether a turn leads to a position of next that is not won within k turns
abbrev pub evades : Color → List Position → ℕ → Position → Option Position → Bool
evades a barred k p None = false
evades a barred k p (Some q) = stands_in (next barred p) q && not (wins a barred k q)

-- the first turn, in turn order, that leads to a position of next that is not won within k turns
unfoldable pub first_evasion : Color → List Position → ℕ → Position → List Step
first_evasion a barred k p = unwrap_or
    (find (λ steps. evades a barred k p (result_of p steps)) turn_lists) []

-- the escape of a position, after which it is not won within k turns
abbrev pub escape_at : Color → List Position → ℕ → Position → Escape
escape_at a barred k p = record {
  position = p;
  depth = suc k;
  turn = steps_with_marks p.board (first_evasion a barred k p);
}

-- the undecided positions that the attacker may turn to after an escape
abbrev pub after_escape : Color → List Position → ℕ → Position → List Position
after_escape a barred k p = open_after barred (result_of p (first_evasion a barred k p))

-- the first occurrences in a list that were not met before
abbrev pub fresh : List Position → List Position → List Position
fresh met [] = []
fresh met (q ∷ qs) = if stands_in met q then fresh met qs else q ∷ fresh (met ++ q ∷ []) qs

-- the escapes of new positions that are met with d turns left, and of those that are met after
-- them, in the order of first meeting, breadth first
abbrev pub escapes_from : Color → List Position → ℕ → List Position → List Position → List Escape
escapes_from a barred zero met new = []
escapes_from a barred (suc zero) met new = map (escape_at a barred 0) new
escapes_from a barred (suc (suc d)) met new =
    map (escape_at a barred (suc d)) new
    ++ escapes_from a barred d (met ++ new)
    (fresh (met ++ new) (flat_map (after_escape a barred (suc d)) new))

-- what is met first: the root, where the defender is to move, and else the undecided positions that
-- the attacker may turn to
abbrev pub met_first : Color → List Position → Position → List Position
met_first a barred p =
    if same_color p.side a then open_replies barred p
    else filter (λ q. is_none (decided q)) (p ∷ [])

-- the turns that are left where a position is met first
abbrev pub turns_left : Color → ℕ → Position → ℕ
turns_left a n p = if same_color p.side a then n - 1 else n

-- the escapes of a position that is not won within n turns
unfoldable pub escapes_of : Color → List Position → ℕ → Position → List Escape
escapes_of a barred n p =
    escapes_from a barred (turns_left a n p) [] (fresh [] (met_first a barred p))
