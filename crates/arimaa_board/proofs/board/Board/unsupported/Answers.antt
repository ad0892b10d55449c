use Rattle.std.proofs.Common.{sym}
use Rattle.std.specs.Prelude.{not, is_some}
use Rattle.arimaa_board.specs.Board.{at}
use Rattle.arimaa_board.specs.Masks.{stays}
use Rattle.arimaa_board.proofs.Lemmas.MaskLaws.{and_mask, not_mask}
use Rattle.arimaa_board.proofs.Settling.{none_lost}
use Rattle.arimaa_board.proofs.board.Board.unsupported.Goals as goal

pub returns-then-occupied-staying-eq0 : goal.returns-then-occupied-staying-eq0
returns-then-occupied-staying-eq0 c =
    let b = c.args.self.now in
    let going = not_mask (stays b) c.staying.result c.staying.type_inv c.staying.ensures in
    let lost = and_mask (λ n. is_some (at b n)) (λ n. not (stays b n)) _ _ c.occupied.ensures going in
    sym (none_lost b _ lost c.if-occupied-staying-eq0.true)
