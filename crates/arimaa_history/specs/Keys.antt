-- Keys: a position as a map files it.
use Rattle.std.specs.Prelude.{Bool, true, false}
use Rattle.arimaa_board.specs.declared.piece.Color.{Color}
use Rattle.arimaa_board.specs.declared.piece.Color.TheVariants.{Gold, Silver}
use Rattle.arimaa_board.specs.Planes.{planes_of, squares_in_planes}
use Rattle.arimaa_board.specs.declared.position.Position.{Position}
use Rattle.arimaa_history.specs.declared.key.Key.{Key}

-- whether a side is Gold
abbrev pub is_gold : Color → Bool
is_gold Gold = true
is_gold Silver = false

-- the side that is Gold, or not
abbrev pub side_at : Bool → Color
side_at true = Gold
side_at false = Silver

-- the key of a position: the planes of its board, and whether Gold is to move
abbrev pub key_of : Position → Key
key_of p = record { planes = planes_of p.board; gold = is_gold p.side }

-- the position of a key
abbrev pub position_at : Key → Position
position_at k = record { board = squares_in_planes k.planes; side = side_at k.gold }
