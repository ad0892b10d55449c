-- A position that is read has a fit board.
use Rattle.std.proofs.Common.{◌≡◌, ℕ, Bool, true, false, cond, List, [], ◌∷◌, Option, None, Some, Result, Ok, Err, refl, subst}
use Rattle.std.specs.Str.{bytes_eq}
use Rattle.std.specs.Prelude.{codes}
use Rattle.arimaa_board.specs.declared.board.Board.{Board}
use Rattle.arimaa_board.specs.declared.fault.BoardFault.{BoardFault}
use Rattle.arimaa_board.specs.declared.piece.Color.{Color}
use Rattle.arimaa_board.specs.declared.piece.Piece.{Piece}
use Rattle.arimaa_board.specs.declared.turn.NotedStep.{NotedStep}
use Rattle.arimaa_board.specs.Fit.{IsFit}
use Rattle.arimaa_board.specs.Piece.{piece_of_letter}
use Rattle.arimaa_board.specs.Setup.{Lineup}
use Rattle.arimaa_board.specs.Text.{reading_of}
use Rattle.arimaa_board.proofs.Lemmas.ReadingLaws.{read_IsBoardText}
use Rattle.arimaa_notation.specs.Items.{after_word, items_of, without_outer_blanks, word_of}
use Rattle.arimaa_notation.specs.Readers.{number_of_text, setup_of_text, turn_of_text}
use Rattle.arimaa_aei.specs.Commands.{alone, command_of, command_said, move_said, option_named, option_of_parts, option_said, position_of_parts, setup_said, setup_told, side_of, turn_told, value_said}
use Rattle.arimaa_aei.specs.Words.{command_word_of, option_of}
use Rattle.arimaa_aei.specs.declared.command.Command.{Command}
use Rattle.arimaa_aei.specs.declared.command.Command.TheVariants as command
use Rattle.arimaa_aei.specs.declared.command.CommandFault.{CommandFault}
use Rattle.arimaa_aei.specs.declared.command.CommandFault.TheVariants as fault
use Rattle.arimaa_aei.specs.declared.command.OptionName.{OptionName}
use Rattle.arimaa_aei.specs.declared.words.CommandWord.{CommandWord}
use Rattle.arimaa_aei.specs.declared.words.CommandWord.TheVariants as word
use Rattle.arimaa_bot.specs.Stages.{HasFitBoard}

-- what is read, if anything is, has a fit board
abbrev Fits : Result Command CommandFault → Type 0
Fits (Ok c) = HasFitBoard c
Fits (Err why) = Unit {0}

either : (b : Bool) (x y : Result Command CommandFault) → Fits x → Fits y → Fits (cond b x y)
either true x y f g = f
either false x y f g = g

alone_fits : (items : List (List ℕ)) (c : Command) → HasFitBoard c → Fits (alone items c)
alone_fits [] c f = f
alone_fits (item ∷ items) c f = tt

parts_fit : (side : Option Color) (r : Result Board BoardFault) → ((b : Board) → r ≡ Ok b → IsFit b) → Fits (position_of_parts side r)
parts_fit (Some side) (Ok b) f = f b refl
parts_fit (Some side) (Err why) f = tt
parts_fit None (Ok b) f = tt
parts_fit None (Err why) f = tt

value_fits : (name : OptionName) (o : Option ℕ) → Fits (option_of_parts name o)
value_fits name None = tt
value_fits name (Some v) = tt

values_fit : (name : OptionName) (items : List (List ℕ)) → Fits (value_said name items)
values_fit name [] = tt
values_fit name (k ∷ []) = tt
values_fit name (k ∷ n ∷ []) = either (bytes_eq k (codes "value")) (option_of_parts name (number_of_text n)) (Err fault.Argument) (value_fits name (number_of_text n)) tt
values_fit name (k ∷ n ∷ m ∷ items) = tt

named_fits : (o : Option OptionName) (items : List (List ℕ)) → Fits (option_named o items)
named_fits None items = tt
named_fits (Some name) items = values_fit name items

option_fits : (items : List (List ℕ)) → Fits (option_said items)
option_fits [] = tt
option_fits (k ∷ []) = tt
option_fits (k ∷ n ∷ items) = either (bytes_eq k (codes "name")) (option_named (option_of n) items) (Err fault.Argument) (named_fits (option_of n) items) tt

turn_fits : (o : Option (List NotedStep)) → Fits (turn_told o)
turn_fits None = tt
turn_fits (Some turn) = tt

told_fits : (o : Option Lineup) → Fits (setup_told o)
told_fits None = tt
told_fits (Some setup) = tt

setup_fits : (o : Option Piece) (text : List ℕ) → Fits (setup_said o text)
setup_fits None text = tt
setup_fits (Some piece) text = told_fits (setup_of_text piece.color text)

move_fits : (item text : List ℕ) → Fits (move_said item text)
move_fits [] text = turn_fits (turn_of_text text)
move_fits (a ∷ []) text = turn_fits (turn_of_text text)
move_fits (a ∷ b ∷ []) text = turn_fits (turn_of_text text)
move_fits (a ∷ b ∷ c ∷ []) text = setup_fits (piece_of_letter a) text
move_fits (a ∷ b ∷ c ∷ d ∷ rest) text = turn_fits (turn_of_text text)

said_fits : (w : Option CommandWord) (rest : List ℕ) → Fits (command_said w rest)
said_fits None rest = tt
said_fits (Some word.Aei) rest = alone_fits (items_of rest) command.Aei tt
said_fits (Some word.IsReady) rest = alone_fits (items_of rest) command.IsReady tt
said_fits (Some word.NewGame) rest = alone_fits (items_of rest) command.NewGame tt
said_fits (Some word.SetPosition) rest = parts_fit (side_of (word_of rest)) (reading_of (without_outer_blanks (after_word rest))) (λ b read. (read_IsBoardText (without_outer_blanks (after_word rest)) b read).fit)
said_fits (Some word.SetOption) rest = option_fits (items_of rest)
said_fits (Some word.MakeMove) rest = move_fits (word_of rest) rest
said_fits (Some word.Go) rest = alone_fits (items_of rest) command.Go tt
said_fits (Some word.Stop) rest = alone_fits (items_of rest) command.Stop tt
said_fits (Some word.Quit) rest = alone_fits (items_of rest) command.Quit tt

pub read_fit : (line : List ℕ) (c : Command) → command_of line ≡ Ok c → HasFitBoard c
unfolding command_of
read_fit line c e = subst Fits e (said_fits (command_word_of (word_of line)) (after_word line))
