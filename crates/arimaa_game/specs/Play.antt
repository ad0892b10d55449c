-- A game as contracts see it, and what turns, words and takebacks do to it.
use Rattle.std.specs.Prelude.{◌≡◌, ◌==◌, ℕ, ◌-◌, ◌<◌, ◌≤◌, Bool, true, false, List, [], ◌∷◌, ◌++◌, Option, None, Some, Result, Ok, Err, All, IsSome, is_some, nat_le, length, take, if◌then◌else◌}
use Rattle.std.specs.List.{slice_index_or}
use Rattle.std.specs.Option.{option_or}
use Rattle.arimaa_board.specs.Fit.{IsFit}
use Rattle.arimaa_board.specs.NotedTurns.{noted_marks, noted_turn}
use Rattle.arimaa_board.specs.declared.position.Position.{Position}
use Rattle.arimaa_board.specs.declared.turn.NotedStep.{NotedStep}
use Rattle.arimaa_board.specs.declared.position.Step.{Step}
use Rattle.arimaa_board.specs.declared.ending.Ending.{Ending}
use Rattle.arimaa_board.specs.declared.ending.Word.{Word}
use Rattle.arimaa_model.specs.declared.fault.ApplyFault.{ApplyFault}
use Rattle.arimaa_model.specs.Faults.{apply_result}
use Rattle.arimaa_model.specs.Game.{IsLawful, closed_by, count_in, ending, present}
use Rattle.arimaa_model.specs.Marks.{marks_right}
use Rattle.arimaa_step.specs.Future.{IsTurnTo}
use Rattle.arimaa_game.specs.declared.fault.GameFault.{GameFault}
use Rattle.arimaa_game.specs.declared.fault.GameFault.TheVariants as faults
use Rattle.arimaa_game.specs.Faults.{fault_of}

-- the positions of a game, the present one last, and the word that closed it, if one did
pub record Play : Type 0 where
  pub history : List Position
  pub closing : Option Word

-- the game that begins with a position
abbrev pub game_from : Position → Play
game_from p = record { history = p ∷ []; closing = None }

-- the game with one more position
abbrev pub game_with : Play → Position → Play
game_with g q = record { history = g.history ++ q ∷ []; closing = g.closing }

-- the game that a word has closed
abbrev pub game_closed_by : Play → Word → Play
game_closed_by g word = record { history = g.history; closing = Some word }

-- the ending by a word, if one closed the game: the side to move has lost
abbrev pub ending_by : Option Word → Option Position → Option Ending
ending_by None now = None
ending_by (Some word) None = None
ending_by (Some word) (Some p) = Some (closed_by word p.side)

-- how a game has ended, if it has: by the rules, and else by a word
unfoldable pub ending_of : Play → Option Ending
ending_of g = option_or (ending g.history) (ending_by g.closing (present g.history))

-- the position that a turn reaches, which may not stand for the third time, or the fault of the
-- turn
abbrev pub unless_third : List Position → Result Position ApplyFault → Result Position GameFault
unless_third h (Err e) = Err (fault_of e)
unless_third h (Ok q) = if nat_le 2 (count_in h q) then Err faults.Repeat else Ok q

-- what a turn from the present position brings about, or its fault
abbrev pub turn_outcome : List Position → Option Position → List Step → Result Position GameFault
turn_outcome h None steps = Err faults.Over
turn_outcome h (Some p) steps = unless_third h (apply_result p steps)

-- what a turn brings about in a game, or its first fault: that the game has ended comes before all
-- others
unfoldable pub play_outcome : Play → List Step → Result Position GameFault
play_outcome g steps =
    if is_some (ending_of g) then Err faults.Over
    else turn_outcome g.history (present g.history) steps

-- what a turn with marks that are right or not brings about: wrong marks are a fault that comes
-- after an ended game and a step that is refused, and before all others
abbrev pub unless_marked : Bool → Result Position GameFault → Result Position GameFault
unless_marked true r = r
unless_marked false (Err faults.Over) = Err faults.Over
unless_marked false (Err (faults.Step place e)) = Err (faults.Step place e)
unless_marked false _ = Err faults.Mark

-- whether the marks of a turn are right at the present position
abbrev pub has_right_marks : Option Position → List NotedStep → Bool
has_right_marks None noted = true
has_right_marks (Some p) noted = marks_right p.board (noted_turn noted) (noted_marks noted)

-- what a turn with marks brings about in a game, or its first fault
abbrev pub played_noted : Play → List NotedStep → Result Position GameFault
played_noted g noted =
    unless_marked (has_right_marks (present g.history) noted) (play_outcome g (noted_turn noted))

-- each position but the first follows on a game that had not ended, and in which a turn may bring
-- it about
abbrev pub AreLawful : List Position → Type 0
AreLawful h =
    (k : ℕ) (d : Position) → 0 < k → k < length h
    → (ending (take k h) ≡ None) × IsLawful (take k h) (slice_index_or h k d)

-- what holds of every game: there is a present position, each board is fit, each later position is
-- lawful, and a word closed only what the rules had not ended
pub record IsGame (g : Play) : Type 0 where
  pub some : IsSome (present g.history)
  pub fit : All (λ q. IsFit q.board) g.history
  pub lawful : AreLawful g.history
  pub closing : IsSome g.closing → ending g.history ≡ None

-- what a game keeps at hand is how it has ended
pub record IsKept (g : Play) (ended : Option Ending) : Type 0 where
  pub game : IsGame g
  pub ending : ended ≡ ending_of g

-- a turn from p reaches q in a game that goes on: it may be played unless q stands twice already
pub record Reaches (g : Play) (p : Position) (steps : List Step) (q : Position) : Type 0 where
  pub answer : play_outcome g steps ≡ unless_third g.history (Ok q)
  pub running : ending_of g ≡ None
  pub present : present g.history ≡ Some p
  pub turn : IsTurnTo p steps q
  pub lawful : count_in g.history q ≤ 1 → IsLawful g.history q
  pub fit : IsFit q.board

-- a turn from p brings q about in a game that goes on, and the rules of the game allow q
pub record BringsAbout (g : Play) (p : Position) (steps : List Step) (q : Position) : Type 0 where
  pub answer : play_outcome g steps ≡ Ok q
  pub running : ending_of g ≡ None
  pub present : present g.history ≡ Some p
  pub turn : IsTurnTo p steps q
  pub lawful : IsLawful g.history q
  pub fit : IsFit q.board

-- a game has gone on by a turn: what the turn brings about stands at the end
abbrev pub GoesOn : Play → List Step → Play → Type 0
GoesOn old steps new =
    (p : Position) × (q : Position) × BringsAbout old p steps q × (new ≡ game_with old q)

-- the number of turns that stand in a game: each position but the first was brought about by one
abbrev pub turns_in : List Position → ℕ
turns_in h = length h - 1

-- why no turn of a game can be taken back: it has ended, or else no turn stands
abbrev pub take_back_fault : Play → Option GameFault
take_back_fault g =
    if is_some (ending_of g) then Some faults.Over
    else if turns_in g.history == 0 then Some faults.NoTurn
    else None

-- the last turn of a game is taken back: the game is the one before that turn, with p present, and
-- goes on
pub record TakesBack (old : Play) (p : Position) (new : Play) : Type 0 where
  pub last : Position
  pub before : old ≡ game_with new last
  pub present : present new.history ≡ Some p
  pub running : ending_of new ≡ None
