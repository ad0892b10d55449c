-- What the lines of a controller say.
use Rattle.std.specs.Prelude.{ℕ, List, [], ◌∷◌, Option, None, Some, Result, Ok, Err, ◌==◌, ◌||◌, codes, if◌then◌else◌}
use Rattle.std.specs.Str.{bytes_eq}
use Rattle.arimaa_board.specs.declared.board.Board.{Board}
use Rattle.arimaa_board.specs.declared.fault.BoardFault.{BoardFault}
use Rattle.arimaa_board.specs.declared.piece.Color.{Color}
use Rattle.arimaa_board.specs.declared.piece.Color.TheVariants.{Gold, Silver}
use Rattle.arimaa_board.specs.declared.piece.Piece.{Piece}
use Rattle.arimaa_board.specs.declared.turn.NotedStep.{NotedStep}
use Rattle.arimaa_board.specs.Piece.{piece_of_letter}
use Rattle.arimaa_board.specs.Setup.{Lineup}
use Rattle.arimaa_board.specs.Text.{reading_of}
use Rattle.arimaa_notation.specs.Items.{after_word, items_of, without_outer_blanks, word_of}
use Rattle.arimaa_notation.specs.Readers.{number_of_text, setup_of_text, turn_of_text}
use Rattle.arimaa_aei.specs.declared.command.Command.{Command}
use Rattle.arimaa_aei.specs.declared.command.Command.TheVariants as command
use Rattle.arimaa_aei.specs.declared.command.CommandFault.{CommandFault}
use Rattle.arimaa_aei.specs.declared.command.CommandFault.TheVariants.{Unknown, Argument}
use Rattle.arimaa_aei.specs.declared.command.OptionName.{OptionName}
use Rattle.arimaa_aei.specs.declared.words.CommandWord.{CommandWord}
use Rattle.arimaa_aei.specs.declared.words.CommandWord.TheVariants as word
use Rattle.arimaa_aei.specs.Words.{command_word_of, option_of}

-- a command that stands alone: no item follows its word
abbrev pub alone : List (List ℕ) → Command → Result Command CommandFault
alone [] command = Ok command
alone (item ∷ items) command = Err Argument

-- the side of a letter: 'g' or 'w' for Gold, 's' or 'b' for Silver
abbrev pub side_of_letter : ℕ → Option Color
side_of_letter b =
    if b == 103 || b == 119 then Some Gold
    else if b == 115 || b == 98 then Some Silver
    else None

-- the side that an item of one letter names
abbrev pub side_of : List ℕ → Option Color
side_of (letter ∷ []) = side_of_letter letter
side_of _ = None

-- the position of a side and a board, where both are read
abbrev pub position_of_parts : Option Color → Result Board BoardFault → Result Command CommandFault
position_of_parts (Some side) (Ok board) =
    Ok (command.SetPosition (record { board = board; side = side }))
position_of_parts _ _ = Err Argument

-- what `setposition` sets: a side, and then a board's text
abbrev pub position_said : List ℕ → Result Command CommandFault
position_said rest =
    position_of_parts (side_of (word_of rest)) (reading_of (without_outer_blanks (after_word rest)))

-- an option with its value, where both are read
abbrev pub option_of_parts : OptionName → Option ℕ → Result Command CommandFault
option_of_parts name (Some value) = Ok (command.SetOption name value)
option_of_parts name None = Err Argument

-- the value of an option: `value`, and then one number
abbrev pub value_said : OptionName → List (List ℕ) → Result Command CommandFault
value_said name (keyword ∷ number ∷ []) =
    if bytes_eq keyword (codes "value") then option_of_parts name (number_of_text number)
    else Err Argument
value_said name _ = Err Argument

-- an option that is known, and its value
abbrev pub option_named : Option OptionName → List (List ℕ) → Result Command CommandFault
option_named None items = Err Unknown
option_named (Some name) items = value_said name items

-- what `setoption` sets: `name`, an option's name, `value` and its value
abbrev pub option_said : List (List ℕ) → Result Command CommandFault
option_said (keyword ∷ name ∷ items) =
    if bytes_eq keyword (codes "name") then option_named (option_of name) items else Err Argument
option_said _ = Err Argument

-- the turn that `makemove` tells, where it is read
abbrev pub turn_told : Option (List NotedStep) → Result Command CommandFault
turn_told (Some turn) = Ok (command.MakeMove turn)
turn_told None = Err Argument

-- the setup that `makemove` tells, where it is read
abbrev pub setup_told : Option Lineup → Result Command CommandFault
setup_told (Some setup) = Ok (command.MakeSetup setup)
setup_told None = Err Argument

-- a setup of the side of its first letter
abbrev pub setup_said : Option Piece → List ℕ → Result Command CommandFault
setup_said (Some piece) text = setup_told (setup_of_text piece.color text)
setup_said None text = Err Argument

-- what `makemove` tells: a setup where its first item has three bytes, and else a turn
abbrev pub move_said : List ℕ → List ℕ → Result Command CommandFault
move_said (letter ∷ _ ∷ _ ∷ []) text = setup_said (piece_of_letter letter) text
move_said _ text = turn_told (turn_of_text text)

-- the command of a first word, with the rest of its line
abbrev pub command_said : Option CommandWord → List ℕ → Result Command CommandFault
command_said None rest = Err Unknown
command_said (Some word.Aei) rest = alone (items_of rest) command.Aei
command_said (Some word.IsReady) rest = alone (items_of rest) command.IsReady
command_said (Some word.NewGame) rest = alone (items_of rest) command.NewGame
command_said (Some word.SetPosition) rest = position_said rest
command_said (Some word.SetOption) rest = option_said (items_of rest)
command_said (Some word.MakeMove) rest = move_said (word_of rest) rest
command_said (Some word.Go) rest = alone (items_of rest) command.Go
command_said (Some word.Stop) rest = alone (items_of rest) command.Stop
command_said (Some word.Quit) rest = alone (items_of rest) command.Quit

-- what a controller's line says
unfoldable pub command_of : List ℕ → Result Command CommandFault
command_of line = command_said (command_word_of (word_of line)) (after_word line)
