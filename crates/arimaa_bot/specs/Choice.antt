-- What the bot chooses where it is asked for a setup or a turn.
use Rattle.std.specs.Prelude.{◌≡◌, ℕ, ◌<◌, ◌≤◌, Bool, false, ◌&&◌, not, List, Option, None, Some, codes, slice_get}
use Rattle.std.specs.Option.{option_or}
use Rattle.arimaa_board.specs.declared.ending.Ending.{Ending}
use Rattle.arimaa_board.specs.declared.piece.Color.{Color}
use Rattle.arimaa_board.specs.declared.piece.Color.TheVariants.{Gold, Silver}
use Rattle.arimaa_board.specs.declared.position.Position.{Position}
use Rattle.arimaa_board.specs.declared.position.Step.{Step}
use Rattle.arimaa_board.specs.Board.{same_color}
use Rattle.arimaa_board.specs.Setup.{Lineup}
use Rattle.arimaa_forced.specs.Entries.{steps_with_marks}
use Rattle.arimaa_forced.specs.Needs.{InNeed}
use Rattle.arimaa_forced.specs.Search.{cost, crowd}
use Rattle.arimaa_game.specs.Play.{Play, ending_of}
use Rattle.arimaa_model.specs.DecidedPositions.{decided}
use Rattle.arimaa_model.specs.Game.{barred_by, present}
use Rattle.arimaa_model.specs.Ranks.{IsRank}
use Rattle.arimaa_model.specs.Results.{stands_in}
use Rattle.arimaa_model.specs.Strategies.{Planned, strategy_of}
use Rattle.arimaa_model.specs.Wins.{wins}
use Rattle.arimaa_notation.specs.Written.{text_of_turn}
use Rattle.arimaa_results.specs.Conditions.{first_passing}
use Rattle.arimaa_bot.specs.declared.lookahead.Lookahead.{Lookahead}
use Rattle.arimaa_bot.specs.declared.stage.Stage.{Stage}
use Rattle.arimaa_bot.specs.declared.stage.Stage.TheVariants as stage

-- the setup that the bot makes as this side
abbrev pub setup_of : Color → List ℕ
setup_of Gold = codes
    "Ra1 Rb1 Rc1 Dd1 De1 Rf1 Rg1 Rh1 Ra2 Hb2 Cc2 Md2 Ee2 Cf2 Hg2 Rh2"
setup_of Silver = codes
    "ra7 hb7 cc7 ed7 me7 cf7 hg7 rh7 ra8 rb8 rc8 dd8 de8 rf8 rg8 rh8"

-- a game goes on, and p is its present position
pub record GoesOnAt (g : Play) (p : Position) : Type 0 where
  pub running : ending_of g ≡ None
  pub now : present g.history ≡ Some p

-- whether a turn may lead to a position: it isn't barred
abbrev pub is_allowed : List Position → Position → Bool
is_allowed barred q = not (stands_in barred q)

-- whether an ending, if there is one, is a loss of this side
abbrev pub is_loss : Color → Option Ending → Bool
is_loss side None = false
is_loss side (Some e) = not (same_color e.winner side)

-- whether a turn of this side may lead to a position and doesn't lose at once by it
abbrev pub is_safe : List Position → Color → Position → Bool
is_safe barred side q = is_allowed barred q && not (is_loss side (decided q))

-- the plain turn: the first turn, in turn order, that doesn't lose at once, and else the first turn
-- of all
abbrev pub plain_turn : List Position → Position → Option (List Step)
plain_turn barred p = option_or
    (first_passing (is_safe barred p.side) p) (first_passing (is_allowed barred) p)

-- how a turn from p is said: with its removal marks
abbrev pub said_from : Position → List Step → List ℕ
said_from p steps = text_of_turn (steps_with_marks p.board steps)

-- the turn of an entry as it is said
abbrev pub said_by : Planned → List ℕ
said_by e = said_from e.position e.steps

-- why the bot has no proof that the side to move wins p within its depth: there is no such win, or
-- a question that has to be answered first costs more than the budget or needs more room
pub data IsUnproved (ahead : Lookahead) (barred : List Position) (p : Position) : Type 0 where
  not_won : wins p.side barred ahead.depth p ≡ false → IsUnproved ahead barred p
  spent : (q : Position) (n : ℕ) → InNeed p.side barred p ahead.depth q n
      → ahead.settings.budget < cost p.side barred n q → IsUnproved ahead barred p
  crowded : (q : Position) (n : ℕ) → InNeed p.side barred p ahead.depth q n
      → ahead.settings.room < crowd barred n q → IsUnproved ahead barred p

-- what the bot may choose
pub data IsChoice (ahead : Lookahead) : Stage → List ℕ → Type 0 where
  -- while a setup is due, that of the side
  gold_setup : IsChoice ahead stage.Unset (setup_of Gold)
  silver_setup : (gold : Lineup) → IsChoice ahead (stage.GoldSet gold) (setup_of Silver)
  -- after the end of the game, that it resigns
  resigns : (g : Play) (e : Ending) → ending_of g ≡ Some e
      → IsChoice ahead (stage.Playing g) (codes "resign")
  -- where the side to move wins within the depth, the turn of the first entry of the position's
  -- strategy
  wins_by : (g : Play) (p : Position) (rank : ℕ) (e : Planned) → GoesOnAt g p
      → IsRank p.side (barred_by g.history) p rank → rank ≤ ahead.depth
      → slice_get (strategy_of p.side (barred_by g.history) rank p) 0 ≡ Some e
      → IsChoice ahead (stage.Playing g) (said_by e)
  -- where that isn't proved, the plain turn
  plain : (g : Play) (p : Position) (steps : List Step) → GoesOnAt g p
      → IsUnproved ahead (barred_by g.history) p
      → plain_turn (barred_by g.history) p ≡ Some steps
      → IsChoice ahead (stage.Playing g) (said_from p steps)
