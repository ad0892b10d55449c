use Rattle.std.proofs.Common.{◌≤◌, ◌*◌, drop, subst, arith}
use Rattle.arimaa_options.specs.declared.search_options.SearchOptions.{SearchOptions}
use Rattle.arimaa_options.proofs.Lemmas.OptionForms.{limits, one_options}
use Rattle.arimaa_options.proofs.search_options.read_options.Goals as goal

pub returns-then-from-le-MOST_PLACES_OF_ALL-clause-ranges : goal.returns-then-from-le-MOST_PLACES_OF_ALL-clause-ranges
returns-then-from-le-MOST_PLACES_OF_ALL-clause-ranges c =
    let room = rw (c.from.ensures, c.from-2.ensures) at c.if-from-le-MOST_PLACES_OF_ALL.true in
    limits (drop c.args.from c.args.words.now) c.in_ok-read_given.field-0 c.options-options.result c.in_ok-read_given.ensures.form c.options-options.ensures room

pub returns-else-from-le-MOST_PLACES_OF_ALL-clause-none : goal.returns-else-from-le-MOST_PLACES_OF_ALL-clause-none
returns-else-from-le-MOST_PLACES_OF_ALL-clause-none c = λ o are within.
    let room = rw (c.from.ensures, c.from-2.ensures) at c.if-from-le-MOST_PLACES_OF_ALL.false in
    let same = one_options (drop c.args.from c.args.words.now) o c.options-options.result are (record { given = c.in_ok-read_given.field-0; in_form = c.in_ok-read_given.ensures.form; set = c.options-options.ensures }) in
    let most : c.options-options.result.settings.workers * c.options-options.result.settings.room ≤ 4194304 = subst (λ (t : SearchOptions). t.settings.workers * t.settings.room ≤ 4194304) same within.limits.room_of_all in
    absurd (omega arith)
