use Rattle.std.proofs.Common.{◌≡◌, ◌≢◌, ◌≤◌, arith, refl}
use Rattle.std.specs.Prelude.{codes}
use Rattle.arimaa_cli.proofs.CommandForms.{same_name}
use Rattle.arimaa_cli.proofs.words.read_room.Goals as goal

pub overflow_cast-result : goal.overflow_cast-result
overflow_cast-result c =
    let read = (c.in-Some.ensures c.in-Some.room).0 refl in
    let low = read.0 in
    omega arith

pub returns-in-Some : goal.returns-in-Some
returns-in-Some c = λ n.
    let read = c.in-Some.ensures n in
    let from = c.from.ensures in
    let some : c.in-Some.room ≢ 0 = c.in-Some.room-test.1 in (
      λ e. (
          let found = read.0 e in
          let number = found.0 in
          let same : c.in-Some.room ≡ n = cc in (
            record { some = omega arith; most = omega arith },
            same_name c.ne.result c.args.name.now (codes "--room") c.ne.ensures c.if-ne.false,
            found.1,
          )),
      λ h. (let most = h.0.most in let within : n ≤ c.from.result = omega arith in read.1 (within, h.2)),
    )
