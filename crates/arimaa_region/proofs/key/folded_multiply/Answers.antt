use Rattle.std.proofs.Common.{◌≡◌, ◌*◌, ◌<◌, ◌^◌, arith, refl}
use Rattle.std.proofs.lemmas.Nat.{mul-lt, and_le_r}
use Rattle.std.specs.Hash.FoldHasher.{folded_multiply}
use Rattle.arimaa_region.proofs.key.folded_multiply.Goals as goal

pub overflow_mul-product : goal.overflow_mul-product
overflow_mul-product c =
    let small : c.args.a * c.args.b < 2 ^ 64 * 2 ^ 64 = mul-lt c.args.a c.args.b (2 ^ 64) (2 ^ 64) (omega arith) (omega arith) in
    omega arith

pub overflow_cast-result : goal.overflow_cast-result
overflow_cast-result c = omega (arith, and_le_r (c.args.a * c.args.b) 18446744073709551615)

pub overflow_cast-result-2 : goal.overflow_cast-result-2
overflow_cast-result-2 c =
    let small : c.args.a * c.args.b < 2 ^ 64 * 2 ^ 64 = mul-lt c.args.a c.args.b (2 ^ 64) (2 ^ 64) (omega arith) (omega arith) in
    omega arith

pub returns : goal.returns
unfolding folded_multiply
returns c = refl
