use Rattle.std.proofs.Common.{sym, ◌∙◌, ap, subst}
use Rattle.std.specs.Prelude.{List, ℕ, slice_index}
use Rattle.arimaa_board.specs.Planes.{ArePlaneList}
use Rattle.arimaa_board.proofs.Lemmas.PlanesBack.{planes_of-valid}
use Rattle.arimaa_model.specs.Backward.{after_back}
use Rattle.arimaa_step.specs.StateWords.{front_four, state_with, state_in_planes}
use Rattle.arimaa_step.proofs.Lemmas.StateWordsLaws.{state_back_planes}
use Rattle.arimaa_step.proofs.state.TurnState.from_planes.Goals as goal

pub from_planes-board-requires : goal.from_planes-board-requires
from_planes-board-requires c =
    let P : List ℕ → Type 0 = λ ws. ArePlaneList (front_four ws) in
    subst P (sym c.requires.2) (planes_of-valid (after_back c.args.start.now.board c.requires.0))

pub returns : goal.returns
returns c before few is =
    c.with_facts.ensures ∙ (ap (λ b. state_with c.args.start.now b (slice_index c.args.planes 4)) c.from_planes-board.ensures ∙ (ap (state_in_planes c.args.start.now) is ∙ state_back_planes c.args.start.now before c.at-corner.ensures.size few))
