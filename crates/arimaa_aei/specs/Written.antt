-- The written form of both sides' lines, without the line feed.
use Rattle.std.specs.Prelude.{◌≡◌, ◌<◌, ℕ, List, [], ◌∷◌, ◌++◌, codes, length}
use Rattle.std.specs.Fmt.{decimal}
use Rattle.arimaa_board.specs.declared.piece.Color.{Color}
use Rattle.arimaa_board.specs.declared.piece.Color.TheVariants.{Gold, Silver}
use Rattle.arimaa_board.specs.Fit.{IsFit}
use Rattle.arimaa_board.specs.Text.{text_of}
use Rattle.arimaa_notation.specs.Items.{without_outer_blanks}
use Rattle.arimaa_notation.specs.Written.{text_of_setup, text_of_turn}
use Rattle.arimaa_aei.specs.declared.command.Command.{Command}
use Rattle.arimaa_aei.specs.declared.command.Command.TheVariants as command
use Rattle.arimaa_aei.specs.Answers.{Spoken, Version, Id, AeiOk, ReadyOk, BestMove, Info, Log, Other}
use Rattle.arimaa_aei.specs.Words.{name_of}

-- a word, and after a space the text that follows it, if there is any
abbrev pub with_text : List ℕ → List ℕ → List ℕ
with_text word [] = word
with_text word (b ∷ bs) = word ++ 32 ∷ b ∷ bs

-- the letter of a side
abbrev pub letter_of_side : Color → ℕ
letter_of_side Gold = 103
letter_of_side Silver = 115

-- a line that a controller sends
abbrev pub text_of_command : Command → List ℕ
text_of_command command.Aei = codes "aei"
text_of_command command.IsReady = codes "isready"
text_of_command command.NewGame = codes "newgame"
text_of_command (command.SetPosition p) =
    codes "setposition " ++ letter_of_side p.side ∷ 32 ∷ text_of p.board
text_of_command (command.SetOption name value) =
    codes "setoption name " ++ name_of name ++ codes " value " ++ decimal value
text_of_command (command.MakeMove noted) = with_text (codes "makemove") (text_of_turn noted)
text_of_command (command.MakeSetup setup) = with_text (codes "makemove") (text_of_setup setup)
text_of_command command.Go = codes "go"
text_of_command command.Stop = codes "stop"
text_of_command command.Quit = codes "quit"

-- a command whose line is read back: a turn has a step, and a board is fit
abbrev pub IsSayable : Command → Type 0
IsSayable (command.SetPosition p) = IsFit p.board
IsSayable (command.MakeMove noted) = 0 < length noted
IsSayable _ = Unit {0}

-- a line of an engine; what is no answer of the protocol has none
abbrev pub text_of_spoken : Spoken → List ℕ
text_of_spoken (Version text) = with_text (codes "protocol-version") text
text_of_spoken (Id text) = with_text (codes "id") text
text_of_spoken AeiOk = codes "aeiok"
text_of_spoken ReadyOk = codes "readyok"
text_of_spoken (BestMove text) = with_text (codes "bestmove") text
text_of_spoken (Info text) = with_text (codes "info") text
text_of_spoken (Log text) = with_text (codes "log") text
text_of_spoken Other = []

-- the text that an answer carries has no blank at its ends
abbrev pub IsTrimmed : Spoken → Type 0
IsTrimmed (Version text) = without_outer_blanks text ≡ text
IsTrimmed (Id text) = without_outer_blanks text ≡ text
IsTrimmed (BestMove text) = without_outer_blanks text ≡ text
IsTrimmed (Info text) = without_outer_blanks text ≡ text
IsTrimmed (Log text) = without_outer_blanks text ≡ text
IsTrimmed _ = Unit {0}
