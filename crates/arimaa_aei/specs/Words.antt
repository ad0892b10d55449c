-- The words of the protocol.
use Rattle.std.specs.Prelude.{ℕ, List, [], ◌∷◌, Option, codes}
use Rattle.std.specs.List.{find}
use Rattle.std.specs.Str.{bytes_eq}
use Rattle.arimaa_aei.specs.declared.command.OptionName.{OptionName}
use Rattle.arimaa_aei.specs.declared.command.OptionName.TheVariants as option
use Rattle.arimaa_aei.specs.declared.words.CommandWord.{CommandWord}
use Rattle.arimaa_aei.specs.declared.words.CommandWord.TheVariants as command
use Rattle.arimaa_aei.specs.declared.words.AnswerWord.{AnswerWord}
use Rattle.arimaa_aei.specs.declared.words.AnswerWord.TheVariants as answer

-- the first word of a controller's line
abbrev pub text_of_command_word : CommandWord → List ℕ
text_of_command_word command.Aei = codes "aei"
text_of_command_word command.IsReady = codes "isready"
text_of_command_word command.NewGame = codes "newgame"
text_of_command_word command.SetPosition = codes "setposition"
text_of_command_word command.SetOption = codes "setoption"
text_of_command_word command.MakeMove = codes "makemove"
text_of_command_word command.Go = codes "go"
text_of_command_word command.Stop = codes "stop"
text_of_command_word command.Quit = codes "quit"

-- every first word of a controller's line
abbrev pub command_words : List CommandWord
command_words =
    command.Aei ∷ command.IsReady ∷ command.NewGame ∷ command.SetPosition ∷ command.SetOption
    ∷ command.MakeMove ∷ command.Go ∷ command.Stop ∷ command.Quit ∷ []

-- the first word of a controller's line with this text, if there is one
unfoldable pub command_word_of : List ℕ → Option CommandWord
command_word_of text = find (λ w. bytes_eq (text_of_command_word w) text) command_words

-- the name of an option
abbrev pub name_of : OptionName → List ℕ
name_of option.TcMove = codes "tcmove"
name_of option.TcReserve = codes "tcreserve"
name_of option.TcPercent = codes "tcpercent"
name_of option.TcMax = codes "tcmax"
name_of option.TcTotal = codes "tctotal"
name_of option.TcTurnTime = codes "tcturntime"
name_of option.GReserve = codes "greserve"
name_of option.SReserve = codes "sreserve"

-- every option
abbrev pub option_names : List OptionName
option_names =
    option.TcMove ∷ option.TcReserve ∷ option.TcPercent ∷ option.TcMax ∷ option.TcTotal
    ∷ option.TcTurnTime ∷ option.GReserve ∷ option.SReserve ∷ []

-- the option with this name, if there is one
unfoldable pub option_of : List ℕ → Option OptionName
option_of text = find (λ o. bytes_eq (name_of o) text) option_names

-- the first word of an engine's line
abbrev pub text_of_answer_word : AnswerWord → List ℕ
text_of_answer_word answer.Version = codes "protocol-version"
text_of_answer_word answer.Id = codes "id"
text_of_answer_word answer.AeiOk = codes "aeiok"
text_of_answer_word answer.ReadyOk = codes "readyok"
text_of_answer_word answer.BestMove = codes "bestmove"
text_of_answer_word answer.Info = codes "info"
text_of_answer_word answer.Log = codes "log"

-- every first word of an engine's line that says something
abbrev pub answer_words : List AnswerWord
answer_words =
    answer.Version ∷ answer.Id ∷ answer.AeiOk ∷ answer.ReadyOk ∷ answer.BestMove
    ∷ answer.Info ∷ answer.Log ∷ []

-- the first word of an engine's line with this text, if there is one
unfoldable pub answer_word_of : List ℕ → Option AnswerWord
answer_word_of text = find (λ w. bytes_eq (text_of_answer_word w) text) answer_words
