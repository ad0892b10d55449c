use Rattle.std.proofs.Common.{◌≡◌, ◌<◌, ◌≤◌, length, true, sym, ◌∙◌, ap, arith}
use Rattle.std.specs.Prelude.{Some}
use Rattle.std.specs.List.{slice_get}
use Rattle.std.proofs.lemmas.Bool.{not-false}
use Rattle.arimaa_results.proofs.Kept.{front_there, front_end}
use Rattle.arimaa_results.proofs.LeftSquares.{not_there}
use Rattle.arimaa_results.proofs.layer_lists.is_left_at.Goals as goal

pub returns-then-place-end : goal.returns-then-place-end
returns-then-place-end c kept rest is ends st small none full =
    let w = c.work_get-words.result in
    let inside : c.args.place < length kept = omega (arith, c.if-place-end.true, ends) in
    let stands : slice_get kept c.args.place ≡ Some w = front_there kept rest c.args.place w inside (ap (λ l. slice_get l c.args.place) (sym is) ∙ c.work_get-words.ensures) in
    let there : c.contains.result ≡ true = not-false c.contains.result full in
    not_there kept c.args.place w st c.args.square inside stands small none (sym c.contains.ensures.bit ∙ there)

pub returns-else-place-end : goal.returns-else-place-end
returns-else-place-end c kept rest is ends st small none full =
    let past : length kept ≤ c.args.place = omega (arith, c.if-place-end.false, ends) in
    front_end kept c.args.place st past
