use Rattle.std.proofs.Common.{◌≡◌, ◌∷◌, [], drop, arith, refl}
use Rattle.std.specs.Prelude.{codes}
use Rattle.std.specs.Fmt.{decimal}
use Rattle.arimaa_options.proofs.Lemmas.OptionForms.{nothing_left, two_words}
use Rattle.arimaa_cli.proofs.words.read_last_room.Goals as goal

pub returns-in-Some-clause-form : goal.returns-in-Some-clause-form
returns-in-Some-clause-form c =
    let ws = c.args.words.now in
    let named = c.is_named-2.ensures.0 c.if-not-is_named.false in
    let size = named.size in
    let read = (c.in-Some.ensures c.in-Some.room).0 refl in
    let name = read.1 in
    let number = read.2 in
    let both = two_words ws 3 c.in_ok-get.field-0.now c.in_ok-get-2.field-0.now c.in_ok-get.ensures.word c.in_ok-get-2.ensures.word in
    let end = nothing_left ws 5 (omega arith) in
    let last : drop 3 ws ≡ codes "--room" ∷ decimal c.in-Some.room ∷ [] = cc in
    record { in_range = read.0; named = named.first; some = omega arith; last = last }
