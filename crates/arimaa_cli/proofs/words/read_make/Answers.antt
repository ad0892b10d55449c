use Rattle.std.proofs.Common.{◌≡◌, ◌∷◌, [], refl}
use Rattle.std.specs.Prelude.{codes}
use Rattle.std.specs.Fmt.{decimal}
use Rattle.arimaa_cli.proofs.CommandForms.{three}
use Rattle.arimaa_cli.proofs.words.read_make.Goals as goal

pub returns-clause-form : goal.returns-clause-form
returns-clause-form c =
    let number = (c.in_ok-number.ensures c.in_ok-number.number).0 refl in
    let turns = (c.in_ok-turns.ensures c.in_ok-turns.turns).0 refl in
    let all = three c.args.words.now (codes "make") c.in_ok-get.field-0.now c.in_ok-get-2.field-0.now (c.is_named.ensures.0 c.if-not-is_named.false) c.in_ok-get.ensures.word c.in_ok-get-2.ensures.word in
    let form : c.args.words.now ≡ codes "make" ∷ decimal c.in_ok-number.number ∷ decimal c.in_ok-turns.turns ∷ [] = cc in
    record { form = form; in_range = (number.0, turns.0) }
