use Rattle.std.proofs.Common.{◌≡◌, ◌-◌, ◌<◌, ◌^◌, ◌*◌, ◌%◌, sym, subst, arith, pow_pos}
use Rattle.std.specs.Prelude.{nat_lt}
use Rattle.std.proofs.lemmas.Nat.{one_shl}
use Rattle.arimaa_board.specs.Masks.{IsMaskOf}
use Rattle.arimaa_step.proofs.TurnedMasks.{ones_before}
use Rattle.arimaa_step.proofs.earlier_steps.squares_before.Goals as goal

pub overflow_sub-result : goal.overflow_sub-result
overflow_sub-result c =
    let small : c.number.result < 64 = omega (arith, c.number.ensures.value, c.number.ensures.in_range) in
    let one : (1 * 2 ^ c.number.result) % 2 ^ 64 ≡ 2 ^ c.number.result = one_shl c.number.result 64 small in
    let some : 0 < 2 ^ c.number.result = pow_pos c.number.result in
    omega arith

pub returns : goal.returns
returns c =
    let small : c.number.result < 64 = omega (arith, c.number.ensures.value, c.number.ensures.in_range) in
    let one : (1 * 2 ^ c.number.result) % 2 ^ 64 ≡ 2 ^ c.number.result = one_shl c.number.result 64 small in
    subst (λ x. IsMaskOf (λ n. nat_lt n c.args.square) (x - 1)) (sym one)
    (subst (λ k. IsMaskOf (λ n. nat_lt n k) (2 ^ c.number.result - 1)) c.number.ensures.value (ones_before c.number.result))
