-- The game that the bot is told, by the lines that it hears.
use Rattle.std.specs.Prelude.{◌≡◌, List, Option, None, Some, Result, Ok, Err, if◌then◌else◌}
use Rattle.std.specs.Option.{option_map, unwrap_or}
use Rattle.arimaa_board.specs.declared.piece.Color.{Color}
use Rattle.arimaa_board.specs.declared.piece.Color.TheVariants.{Gold, Silver}
use Rattle.arimaa_board.specs.declared.position.Position.{Position}
use Rattle.arimaa_board.specs.declared.turn.NotedStep.{NotedStep}
use Rattle.arimaa_board.specs.Fit.{IsFit}
use Rattle.arimaa_board.specs.NotedTurns.{noted_turn}
use Rattle.arimaa_board.specs.Setup.{Lineup}
use Rattle.arimaa_model.specs.Game.{present}
use Rattle.arimaa_step.specs.declared.marks.Marks.TheVariants.{Optional}
use Rattle.arimaa_step.specs.MarkRules.{marks_fit}
use Rattle.arimaa_game.specs.declared.fault.GameFault.{GameFault}
use Rattle.arimaa_game.specs.Play.{Play, game_from, game_with, play_outcome}
use Rattle.arimaa_game.specs.Setups.{position_after_setups}
use Rattle.arimaa_aei.specs.declared.command.Command.{Command}
use Rattle.arimaa_aei.specs.declared.command.Command.TheVariants as command
use Rattle.arimaa_aei.specs.declared.command.CommandFault.{CommandFault}
use Rattle.arimaa_bot.specs.declared.stage.Stage.{Stage}
use Rattle.arimaa_bot.specs.declared.stage.Stage.TheVariants as stage

-- the setup that stands before Silver's is Gold's
abbrev pub IsWhole : Stage → Type 0
IsWhole stage.Unset = Unit {0}
IsWhole (stage.GoldSet gold) = gold.color ≡ Gold
IsWhole (stage.Playing g) = Unit {0}

-- where a command sets a position, its board is fit
abbrev pub HasFitBoard : Command → Type 0
HasFitBoard (command.SetPosition p) = IsFit p.board
HasFitBoard _ = Unit {0}

-- after Gold's setup Silver's is due
abbrev pub set_up_gold : Lineup → Color → Option Stage
set_up_gold setup Gold = Some (stage.GoldSet setup)
set_up_gold setup Silver = None

-- after both setups the game begins
abbrev pub set_up_silver : Lineup → Lineup → Color → Option Stage
set_up_silver gold setup Gold = None
set_up_silver gold setup Silver =
    Some (stage.Playing (game_from (position_after_setups gold setup)))

-- the stage after a setup, if it is the one that is due
abbrev pub set_up : Stage → Lineup → Option Stage
set_up stage.Unset setup = set_up_gold setup setup.color
set_up (stage.GoldSet gold) setup = set_up_silver gold setup setup.color
set_up (stage.Playing g) setup = None

-- the game with what a turn brings about, if the turn may be played
abbrev pub grown_by : Play → Result Position GameFault → Option Play
grown_by g (Ok q) = Some (game_with g q)
grown_by g (Err fault) = None

-- the game after a turn from p, whose marks may be left out and are right where they stand
abbrev pub moved_from : Play → Option Position → List NotedStep → Option Play
moved_from g None noted = None
moved_from g (Some p) noted =
    if marks_fit Optional p.board noted then grown_by g (play_outcome g (noted_turn noted))
    else None

-- the game after a turn, if it is lawful
abbrev pub game_after_turn : Play → List NotedStep → Option Play
game_after_turn g noted = moved_from g (present g.history) noted

-- the stage after a turn, if it is lawful
abbrev pub move_at : Stage → List NotedStep → Option Stage
move_at stage.Unset noted = None
move_at (stage.GoldSet gold) noted = None
move_at (stage.Playing g) noted = option_map stage.Playing (game_after_turn g noted)

-- the stage that a command leads to; none where it tells a setup that isn't due or a turn that
-- isn't lawful
abbrev pub stage_told : Stage → Command → Option Stage
stage_told at command.NewGame = Some stage.Unset
stage_told at (command.SetPosition p) = Some (stage.Playing (game_from p))
stage_told at (command.MakeSetup setup) = set_up at setup
stage_told at (command.MakeMove noted) = move_at at noted
stage_told at _ = Some at

-- the stage after a line: it stays where the line tells nothing or nothing lawful
abbrev pub stage_after : Stage → Result Command CommandFault → Stage
stage_after at (Ok c) = unwrap_or (stage_told at c) at
stage_after at (Err fault) = at
