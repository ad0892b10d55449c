use Rattle.arimaa_board.specs.Masks.{is_in}
use Rattle.arimaa_board.proofs.Lemmas.MaskLaws.{own_mask}
use Rattle.arimaa_results.proofs.FirstSteps.{without_taken}
use Rattle.arimaa_results.proofs.next_states.left_of.Goals as goal

pub returns-then-taken : goal.returns-then-taken
returns-then-taken c = λ n small.
    rw c.if-taken.true (without_taken c.args.mask c.without.result c.args.from (c.without.ensures.others (is_in c.args.mask) (own_mask c.args.mask)) n small)
