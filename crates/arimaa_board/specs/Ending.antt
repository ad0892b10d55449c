-- How a game ends by a word.
use Rattle.arimaa_board.specs.declared.ending.Cause.{Cause}
use Rattle.arimaa_board.specs.declared.ending.Cause.TheVariants.{Resign, Time}
use Rattle.arimaa_board.specs.declared.ending.Ending.{Ending}
use Rattle.arimaa_board.specs.declared.ending.Word.{Word}
use Rattle.arimaa_board.specs.declared.ending.Word.TheVariants as words
use Rattle.arimaa_board.specs.declared.piece.Color.{Color}
use Rattle.arimaa_board.specs.Piece.{other_color}

-- the cause of an ending by a word
abbrev pub cause_of : Word → Cause
cause_of words.Resigns = Resign
cause_of words.Time = Time

-- how a game ends by a word where the setup or turn of a side is due: that side has lost
abbrev pub closed_by : Word → Color → Ending
closed_by word loser = record { winner = other_color loser; cause = cause_of word }
