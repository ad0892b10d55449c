-- The setup that stands before Silver's is Gold's, whatever is told.
use Rattle.std.proofs.Common.{◌≡◌, List, Option, None, Some, Result, Ok, Err}
use Rattle.std.specs.Option.{option_map, unwrap_or}
use Rattle.arimaa_board.specs.declared.piece.Color.{Color}
use Rattle.arimaa_board.specs.declared.piece.Color.TheVariants.{Gold, Silver}
use Rattle.arimaa_board.specs.declared.turn.NotedStep.{NotedStep}
use Rattle.arimaa_board.specs.Setup.{Lineup}
use Rattle.arimaa_game.specs.Play.{Play}
use Rattle.arimaa_aei.specs.declared.command.Command.{Command}
use Rattle.arimaa_aei.specs.declared.command.Command.TheVariants as command
use Rattle.arimaa_aei.specs.declared.command.CommandFault.{CommandFault}
use Rattle.arimaa_bot.specs.declared.stage.Stage.{Stage}
use Rattle.arimaa_bot.specs.declared.stage.Stage.TheVariants as stage
use Rattle.arimaa_bot.specs.Stages.{IsWhole, move_at, game_after_turn, set_up, set_up_gold, set_up_silver, stage_after}

after_gold : (setup : Lineup) (c : Color) → setup.color ≡ c → IsWhole (unwrap_or (set_up_gold setup c) stage.Unset)
after_gold setup Gold e = e
after_gold setup Silver e = tt

after_silver : (gold setup : Lineup) (c : Color) → gold.color ≡ Gold → IsWhole (unwrap_or (set_up_silver gold setup c) (stage.GoldSet gold))
after_silver gold setup Gold e = e
after_silver gold setup Silver e = tt

after_setup : (at : Stage) (setup : Lineup) → IsWhole at → IsWhole (unwrap_or (set_up at setup) at)
after_setup stage.Unset setup w = let same : setup.color ≡ setup.color = λ _. setup.color in after_gold setup setup.color same
after_setup (stage.GoldSet gold) setup w = after_silver gold setup setup.color w
after_setup (stage.Playing g) setup w = tt

played_on : (g : Play) (o : Option Play) → IsWhole (unwrap_or (option_map stage.Playing o) (stage.Playing g))
played_on g None = tt
played_on g (Some h) = tt

after_turn : (at : Stage) (noted : List NotedStep) → IsWhole at → IsWhole (unwrap_or (move_at at noted) at)
after_turn stage.Unset noted w = tt
after_turn (stage.GoldSet gold) noted w = w
after_turn (stage.Playing g) noted w = played_on g (game_after_turn g noted)

pub whole_after : (at : Stage) (says : Result Command CommandFault) → IsWhole at → IsWhole (stage_after at says)
whole_after at (Err why) w = w
whole_after at (Ok command.Aei) w = w
whole_after at (Ok command.IsReady) w = w
whole_after at (Ok command.NewGame) w = tt
whole_after at (Ok (command.SetPosition p)) w = tt
whole_after at (Ok (command.SetOption name value)) w = w
whole_after at (Ok (command.MakeMove noted)) w = after_turn at noted w
whole_after at (Ok (command.MakeSetup setup)) w = after_setup at setup w
whole_after at (Ok command.Go) w = w
whole_after at (Ok command.Stop) w = w
whole_after at (Ok command.Quit) w = w
