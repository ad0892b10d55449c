-- The tests on turns, and on rabbits at their goal, decide their relations.
use Rattle.std.proofs.Common.{ℕ, ◌≤◌, List, [], ◌∷◌, length, refl, sym, ◌⊎◌}
use Rattle.std.specs.Prelude.{◌||◌, nat_le}
use Rattle.std.specs.Bool.{Decides}
use Rattle.std.proofs.lemmas.Bool.{true≢false, leb-true, le-leb}
use Rattle.std.proofs.lemmas.Bool.Decides.{Decides-and, Decides-or, Decides-not, Decides-like}
use Rattle.arimaa_board.specs.declared.piece.Color.{Color}
use Rattle.arimaa_board.specs.declared.board.Board.{Board}
use Rattle.arimaa_board.specs.declared.position.Step.{Step}
use Rattle.arimaa_board.specs.Words.{same_squares}
use Rattle.arimaa_board.specs.SameBoards.{same_squares-Decides}
use Rattle.arimaa_model.specs.Moves.{after, is_single, is_push, is_pull}
use Rattle.arimaa_model.specs.Turns.{after_all, has_cutting, has_open_cutting, is_turn}
use Rattle.arimaa_model.specs.Relations.{IsPush, IsPull, HasCutting, HasOpenCutting, IsTurn}
use Rattle.arimaa_model.proofs.Lemmas.RelatedMoves.{single-Decides, half-Decides, push-Decides, pull-Decides}

pair-Decides : (b : Board) (side : Color) (s t : Step) → Decides (is_push b side s t || is_pull b side s t) (IsPush b side s t ⊎ IsPull b side s t)
pair-Decides b side s t = Decides-or (is_push b side s t) (is_pull b side s t) (push-Decides b side s t) (pull-Decides b side s t)

pub cutting-Decides : (b : Board) (side : Color) (steps : List Step) → Decides (has_cutting b side steps) (HasCutting b side steps)
cutting-Decides b side [] = (λ _. tt, λ _. refl)
cutting-Decides b side (s ∷ []) = single-Decides b side s
cutting-Decides b side (s ∷ t ∷ rest) =
    Decides-or _ _
    (Decides-and (is_single b side s) (has_cutting (after b s) side (t ∷ rest)) (single-Decides b side s) (cutting-Decides (after b s) side (t ∷ rest)))
    (Decides-and (is_push b side s t || is_pull b side s t) (has_cutting (after (after b s) t) side rest) (pair-Decides b side s t) (cutting-Decides (after (after b s) t) side rest))

pub open_cutting-Decides : (b : Board) (side : Color) (steps : List Step) → Decides (has_open_cutting b side steps) (HasOpenCutting b side steps)
open_cutting-Decides b side [] = (λ h. absurd (true≢false (sym h)), λ n. absurd n)
open_cutting-Decides b side (s ∷ []) = half-Decides b side s
open_cutting-Decides b side (s ∷ t ∷ rest) =
    Decides-or _ _
    (Decides-and (is_single b side s) (has_open_cutting (after b s) side (t ∷ rest)) (single-Decides b side s) (open_cutting-Decides (after b s) side (t ∷ rest)))
    (Decides-and (is_push b side s t || is_pull b side s t) (has_open_cutting (after (after b s) t) side rest) (pair-Decides b side s t) (open_cutting-Decides (after (after b s) t) side rest))

le-Decides : (m n : ℕ) → Decides (nat_le m n) (m ≤ n)
le-Decides m n = (leb-true m n, le-leb m n)

pub turn-Decides : (b : Board) (side : Color) (steps : List Step) → Decides (is_turn b side steps) (IsTurn b side steps (after_all b steps))
unfolding is_turn
turn-Decides b side steps =
    Decides-like (is_turn b side steps)
    (λ h. record { some = h.0.0.0; few = h.0.0.1; moves = h.0.1; leads = refl; changes = h.1 })
    (λ h. (((h.some, h.few), h.moves), h.changes))
    (Decides-and _ _
    (Decides-and _ _ (Decides-and (nat_le 1 (length steps)) (nat_le (length steps) 4) (le-Decides 1 (length steps)) (le-Decides (length steps) 4)) (cutting-Decides b side steps))
    (Decides-not (same_squares (after_all b steps) b) (same_squares-Decides (after_all b steps) b)))
