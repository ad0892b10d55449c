use Rattle.arimaa_board.proofs.Lemmas.Friends.{is_one}
use Rattle.arimaa_board.proofs.mask.contains.Goals as goal

pub returns-clause-test : goal.returns-clause-test
returns-clause-test c = λ test is. rw (c.number.ensures.value, is c.args.square c.number.ensures.in_range) (is_one (test c.args.square))
