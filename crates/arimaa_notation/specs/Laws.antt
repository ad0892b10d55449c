-- What a text says is one thing.
use Rattle.std.specs.Prelude.{◌≡◌, ℕ, List}
use Rattle.arimaa_board.specs.declared.piece.Color.{Color}
use Rattle.arimaa_board.specs.declared.turn.NotedStep.{NotedStep}
use Rattle.arimaa_board.specs.Setup.{Lineup}
use Rattle.arimaa_notation.specs.Grammar.{IsTurnText, IsSetupText}

-- no text is that of two turns
abbrev pub TurnsApart : Type 0
TurnsApart = (bytes : List ℕ) (ns ms : List NotedStep) → IsTurnText bytes ns → IsTurnText bytes ms
    → ns ≡ ms

-- no text is that of two setups of a side
abbrev pub SetupsApart : Type 0
SetupsApart = (bytes : List ℕ) (color : Color) (s t : Lineup) → IsSetupText bytes color s
    → IsSetupText bytes color t → s ≡ t
