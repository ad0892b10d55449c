use Rattle.std.proofs.Common.{refl}
use Rattle.arimaa_step.proofs.Lemmas.AnswerLaws.{fits_there}
use Rattle.arimaa_step.proofs.state.board_after.Goals as goal

pub board_by-requires : goal.board_by-requires
board_by-requires c = fits_there c.args.board.now c.args.step.now c.requires

pub returns : goal.returns
returns c = c.board_by.ensures c.args.step.now refl refl
