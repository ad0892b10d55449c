use Rattle.std.proofs.Common.{◌≡◌, refl, arith, ⊎_elim}
use Rattle.std.proofs.lemmas.Bool.{cases_eq}
use Rattle.arimaa_board.proofs.Transposing.{word_bit}
use Rattle.arimaa_board.proofs.transpose.transposed.Goals as goal

pub returns-clause-small : goal.returns-clause-small
returns-clause-small c = λ k known.
    ⊎_elim (λ (e : k ≡ 0). rw e (c.far.ensures.small 0 (omega arith)))
    (λ not_0. ⊎_elim (λ (e : k ≡ 1). rw e (c.far-2.ensures.small 0 (omega arith)))
    (λ not_1. ⊎_elim (λ (e : k ≡ 2). rw e (c.far.ensures.small 1 (omega arith)))
    (λ not_2. let e : k ≡ 3 = omega arith in rw e (c.far-2.ensures.small 1 (omega arith)))
    (cases_eq k 2))
    (cases_eq k 1))
    (cases_eq k 0)

pub returns-clause-bits : goal.returns-clause-bits
returns-clause-bits c = λ k i known small.
    ⊎_elim (λ (e : k ≡ 0). rw e (word_bit c.args.planes c.near.result c.near-2.result c.near.ensures.bits c.near-2.ensures.bits 0 0 (omega arith) (omega arith) c.far.result c.far.ensures.bits refl i small))
    (λ not_0. ⊎_elim (λ (e : k ≡ 1). rw e (word_bit c.args.planes c.near.result c.near-2.result c.near.ensures.bits c.near-2.ensures.bits 1 0 (omega arith) (omega arith) c.far-2.result c.far-2.ensures.bits refl i small))
    (λ not_1. ⊎_elim (λ (e : k ≡ 2). rw e (word_bit c.args.planes c.near.result c.near-2.result c.near.ensures.bits c.near-2.ensures.bits 0 1 (omega arith) (omega arith) c.far.result c.far.ensures.bits refl i small))
    (λ not_2. let e : k ≡ 3 = omega arith in rw e (word_bit c.args.planes c.near.result c.near-2.result c.near.ensures.bits c.near-2.ensures.bits 1 1 (omega arith) (omega arith) c.far-2.result c.far-2.ensures.bits refl i small))
    (cases_eq k 2))
    (cases_eq k 1))
    (cases_eq k 0)
