use Rattle.std.proofs.Common.{◌≡◌, Some, sym, ◌∙◌, ap}
use Rattle.arimaa_board.specs.Board.{moved, settle}
use Rattle.arimaa_board.specs.Square.{next_square}
use Rattle.arimaa_step.proofs.state.board_by.Goals as goal
use Rattle.arimaa_model.proofs.Lemmas.Pushers.{after_is}

pub number_beside-requires-clause-inside : goal.number_beside-requires-clause-inside
number_beside-requires-clause-inside c = rw c.number.ensures.value c.requires

pub returns : goal.returns
returns c = λ s is_from is_dir.
    let there : next_square s.from s.dir ≡ Some c.number_beside.result = rw (is_from, is_dir, sym c.number.ensures.value) c.number_beside.ensures.value in
    c.settled.ensures
    ∙ (ap settle (c.moved.ensures ∙ (ap (moved c.args.board.now c.args.from) c.from_number-to.ensures ∙ ap (λ n. moved c.args.board.now n c.number_beside.result) (sym is_from)))
    ∙ sym (after_is c.args.board.now s c.number_beside.result there))
