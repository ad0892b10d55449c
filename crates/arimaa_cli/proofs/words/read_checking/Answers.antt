use Rattle.std.proofs.Common.{◌≡◌, ◌∷◌, ◌≤◌, arith, refl, sym}
use Rattle.std.specs.Fmt.{decimal}
use Rattle.arimaa_judge.specs.Texts.{side_word}
use Rattle.arimaa_cli.proofs.CommandForms.{prove_words}
use Rattle.arimaa_cli.specs.Commands.Check.{room_words}
use Rattle.arimaa_cli.specs.declared.commands.prove.TheConstants.{MOST_TURNS}
use Rattle.arimaa_cli.proofs.words.read_checking.Goals as goal

pub overflow_cast-depth : goal.overflow_cast-depth
overflow_cast-depth c =
    let read = (c.in_ok-depth.ensures c.in_ok-depth.field-0).0 refl in
    let low = read.0 in
    omega arith

pub returns-clause-form : goal.returns-clause-form
returns-clause-form c =
    let ws = c.args.words.now in
    let room = c.in_ok-room.ensures.form in
    let name = room.named in
    let last = room.last in
    let side = (c.in_ok-attacker.ensures c.in_ok-attacker.attacker).0 refl in
    let depth = (c.in_ok-depth.ensures c.in_ok-depth.field-0).0 refl in
    let number = depth.1 in
    let all = prove_words ws c.args.name.now c.in_ok-get.field-0.now c.in_ok-get-2.field-0.now (sym name) c.in_ok-get.ensures.word c.in_ok-get-2.ensures.word in
    let form : ws ≡ c.args.name.now ∷ side_word c.in_ok-attacker.attacker ∷ decimal c.in_ok-depth.field-0 ∷ room_words c.in_ok-room.room = cc in
    let from = c.from.ensures in
    let low = depth.0 in
    let within : c.in_ok-depth.field-0 ≤ MOST_TURNS = omega arith in
    record { form = form; in_range = (within, room.in_range) }
