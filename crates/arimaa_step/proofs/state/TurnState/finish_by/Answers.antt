use Rattle.arimaa_board.specs.Board.{at}
use Rattle.arimaa_step.proofs.Lemmas.AnswerLaws.{ends_inside}
use Rattle.arimaa_step.proofs.state.TurnState.finish_by.Goals as goal

pub board_by-board-requires : goal.board_by-board-requires
board_by-board-requires c = ends_inside c.args.self.now c.args.dir c.args.from (at c.args.self.now.board c.args.from) c.requires
