use Rattle.std.proofs.Common.{◌∙◌, ℕ, Some}
use Rattle.arimaa_board.specs.Masks.{is_beside}
use Rattle.arimaa_model.specs.Frozen.{beats, passes_at}
use Rattle.arimaa_model.proofs.BeatenMasks.{weaker_beside}
use Rattle.arimaa_model.proofs.frozen_pieces.has_weaker_beside.Goals as goal

pub returns : goal.returns
returns c =
    let weaker = λ (n : ℕ). passes_at c.args.board.now (λ q. beats c.args.piece q) (Some n) in
    c.contains.ensures.test (is_beside weaker) (c.neighbours.ensures weaker c.weaker_than.ensures) ∙ weaker_beside c.args.board.now c.args.piece c.args.square
