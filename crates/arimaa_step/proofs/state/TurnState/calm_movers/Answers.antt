use Rattle.std.proofs.Common.{ℕ, sym}
use Rattle.arimaa_board.specs.Board.{at, holds_color}
use Rattle.arimaa_board.specs.Masks.{is_beside}
use Rattle.arimaa_board.specs.Piece.{other_color}
use Rattle.arimaa_step.proofs.state.TurnState.calm_movers.Goals as goal

pub returns : goal.returns
returns c =
    let st = c.args.self.now in
    let enemy = λ (m : ℕ). holds_color (other_color st.start.side) (at st.board m) in
    c.mask_without.ensures (λ n. holds_color st.start.side (at st.board n)) (is_beside enemy) c.of.ensures
    (c.neighbours.ensures enemy (rw (sym c.other.ensures) c.of-2.ensures))
