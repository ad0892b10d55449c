-- Whether two colours are the same.
use Rattle.std.proofs.Common.{◌≡◌, true, not, refl}
use Rattle.std.specs.Bool.{Decides}
use Rattle.arimaa_board.specs.declared.piece.Color.{Color}
use Rattle.arimaa_board.specs.declared.piece.Color.TheVariants.{Gold, Silver}
use Rattle.arimaa_board.specs.Board.{same_color}
use Rattle.arimaa_board.specs.Piece.{other_color}

-- the test tells whether two colours are one
pub same_color-Decides : (c d : Color) → Decides (same_color c d) (c ≡ d)
same_color-Decides Gold Gold = (λ _. refl, λ _. refl)
same_color-Decides Silver Silver = (λ _. refl, λ _. refl)
same_color-Decides Gold Silver = (λ e. cc, λ e. cc)
same_color-Decides Silver Gold = (λ e. cc, λ e. cc)

-- a colour is the same as itself
pub same_color-refl : (c : Color) → same_color c c ≡ true
same_color-refl Gold = refl
same_color-refl Silver = refl

-- the test takes its colours in any order
pub same_color-sym : (c d : Color) → same_color c d ≡ same_color d c
same_color-sym Gold Gold = refl
same_color-sym Gold Silver = refl
same_color-sym Silver Gold = refl
same_color-sym Silver Silver = refl

-- the other colour is the one that is not it
pub other_color-same : (c a : Color) → same_color (other_color c) a ≡ not (same_color c a)
other_color-same Gold Gold = refl
other_color-same Silver Silver = refl
other_color-same Gold Silver = refl
other_color-same Silver Gold = refl
