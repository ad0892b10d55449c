use Rattle.std.proofs.Common.{◌≡◌, ◌<◌, ◌≤◌, length, sym, ◌∙◌, ap, arith}
use Rattle.std.specs.Prelude.{Some}
use Rattle.std.specs.List.{slice_get}
use Rattle.arimaa_region.specs.Same.{same_words}
use Rattle.arimaa_results.specs.LastSteps.{is_next}
use Rattle.arimaa_results.proofs.Kept.{kept_there, front_there, front_end}
use Rattle.arimaa_results.proofs.layer_lists.is_kept_at.Goals as goal

pub returns-then-place-end-clause-value : goal.returns-then-place-end-clause-value
returns-then-place-end-clause-value c kept rest is ends =
    let w = c.work_get.result in
    let inside : c.args.place < length kept = omega (arith, c.if-place-end.true, ends) in
    let there : slice_get kept c.args.place ≡ Some w = front_there kept rest c.args.place w inside (ap (λ l. slice_get l c.args.place) (sym is) ∙ c.work_get.ensures) in
    c.has_same_words.ensures
    ∙ (ap (same_words w) c.planes.ensures
    ∙ sym (ap (λ l. is_next l c.args.state.now) (kept_there kept c.args.place w inside there)))

pub returns-else-place-end-clause-value : goal.returns-else-place-end-clause-value
returns-else-place-end-clause-value c kept rest is ends =
    let past : length kept ≤ c.args.place = omega (arith, c.if-place-end.false, ends) in
    sym (front_end kept c.args.place c.args.state.now past)
