-- Lists of results that may end early.
use Rattle.std.specs.Prelude.{◌≡◌, Bool, false, List, [], ◌++◌, length, drop}
use Rattle.std.specs.List.{list_any}
use Rattle.std.specs.Option.{option_map_or}
use Rattle.arimaa_board.specs.declared.piece.Color.{Color}
use Rattle.arimaa_board.specs.Board.{same_color}
use Rattle.arimaa_board.specs.declared.position.Position.{Position}
use Rattle.arimaa_model.specs.DecidedPositions.{decided}
use Rattle.arimaa_model.specs.Results.{next}
use Rattle.arimaa_results.specs.declared.stop.Until.{Until}
use Rattle.arimaa_results.specs.declared.stop.Until.TheVariants as until

-- whether the rules have decided a position for a side
abbrev pub is_won_by : Color → Position → Bool
is_won_by side q = option_map_or (λ e. same_color e.winner side) (decided q) false

-- whether a list with these positions, by a turn of a side, may end early
abbrev pub may_end : Until → Color → List Position → Bool
may_end until.All side part = false
may_end until.Win side part = list_any (is_won_by side) part

-- the list of the next positions begins with this part, and ends with it unless it may end early
pub record IsListed (ends : Bool) (barred : List Position) (p : Position)
    (part : List Position) : Type 0 where
  pub begun : next barred p ≡ part ++ drop (length part) (next barred p)
  pub whole : ends ≡ false → drop (length part) (next barred p) ≡ []
