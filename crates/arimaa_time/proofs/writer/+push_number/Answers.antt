use Rattle.std.proofs.Common.{◌/◌, ◌%◌, ◌+◌, [], ◌∷◌, ◌++◌, arith, ap, sym, ◌∙◌, length, length-append, append_assoc, decimal}
use Rattle.std.proofs.lemmas.Fmt.{decimal_digit, decimal_step}
use Rattle.arimaa_time.proofs.writer.+push_number.Goals as goal

pub push_digit-requires-clause-room : goal.push_digit-requires-clause-room
push_digit-requires-clause-room t c = omega (arith, c.requires, ap length (decimal_digit c.args.n c.if-n-lt10.true))

pub push_number-requires : goal.push_number-requires
push_number-requires t c =
    let n = c.args.n in
    (omega arith, omega (arith, c.requires, ap length (decimal_step n c.if-n-lt10.false c.ranges.n.fits), length-append (decimal (n / 10)) ((48 + n % 10) ∷ [])))

pub push_digit-requires-else-n-lt10-clause-room : goal.push_digit-requires-else-n-lt10-clause-room
push_digit-requires-else-n-lt10-clause-room t c =
    let n = c.args.n in
    omega (arith, c.requires, ap length (decimal_step n c.if-n-lt10.false c.ranges.n.fits), length-append (decimal (n / 10)) ((48 + n % 10) ∷ []), ap length c.push_number.ensures, length-append c.args.text.now.bytes (decimal (n / 10)))

pub returns-then-n-lt10 : goal.returns-then-n-lt10
returns-then-n-lt10 t c = c.push_digit.ensures ∙ ap (λ l. c.args.text.now.bytes ++ l) (sym (decimal_digit c.args.n c.if-n-lt10.true))

pub returns-else-n-lt10 : goal.returns-else-n-lt10
returns-else-n-lt10 t c =
    let n = c.args.n in
    let digit = (48 + n % 10) ∷ [] in
    c.push_digit-else-n-lt10.ensures
    ∙ ap (λ l. l ++ digit) c.push_number.ensures
    ∙ append_assoc c.args.text.now.bytes (decimal (n / 10)) digit
    ∙ ap (λ l. c.args.text.now.bytes ++ l) (sym (decimal_step n c.if-n-lt10.false c.ranges.n.fits))
