-- What holds of the game while the side that is due changes.
use Rattle.std.proofs.Common.{◌≡◌, ◌++◌, ◌+◌, ◌≤◌, ℕ, List, [], ◌∷◌, ap, arith, false, length, length-append, true}
use Rattle.std.specs.Prelude.{not}
use Rattle.arimaa_board.specs.declared.piece.Color.{Color}
use Rattle.arimaa_model.specs.Wins.{is_nil}
use Rattle.arimaa_match.specs.declared.game.Phase.{Phase}
use Rattle.arimaa_match.specs.declared.game.Phase.TheVariants as phase
use Rattle.arimaa_match.specs.Phases.{IsKept, history_of}

-- once the game has a position, it does not matter which side is due
pub kept_playing : (at : Phase) (side other : Color) → not (is_nil (history_of at)) ≡ true
    → IsKept at side → IsKept at other
kept_playing (phase.SettingUp gold) side other is kept = let apart : false ≡ true = is in absurd cc
kept_playing (phase.Playing g) side other is kept = kept

-- each turn still has its line where both are one more
pub one_longer : {X : Type 0} (xs ys : List X) (x : X) (n : ℕ) → ys ≡ xs ++ x ∷ [] → n ≤ length xs
    → n + 1 ≤ length ys
one_longer {X} xs ys x n is few =
    let long = ap length is in omega (arith, long, length-append xs (x ∷ []))
