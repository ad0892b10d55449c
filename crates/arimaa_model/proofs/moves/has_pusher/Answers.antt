use Rattle.std.proofs.Common.{◌∙◌, ℕ, Some}
use Rattle.arimaa_board.specs.Masks.{is_beside}
use Rattle.arimaa_model.specs.Moves.{can_push}
use Rattle.arimaa_model.proofs.BeatenMasks.{pusher_beside}
use Rattle.arimaa_model.proofs.moves.has_pusher.Goals as goal

pub returns : goal.returns
returns c =
    let able = λ (n : ℕ). can_push c.args.board.now c.args.piece (Some n) in
    c.contains.ensures.test (is_beside able) (c.neighbours.ensures able c.pushers_of.ensures) ∙ pusher_beside c.args.board.now c.args.piece c.args.square
