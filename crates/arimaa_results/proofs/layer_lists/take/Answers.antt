use Rattle.std.proofs.Common.{sym, subst, false}
use Rattle.std.specs.Prelude.{is_ok}
use Rattle.arimaa_region.specs.Same.{same_words}
use Rattle.arimaa_region.specs.Same.{same_position}
use Rattle.arimaa_results.specs.Additions.{IsFilled}
use Rattle.arimaa_results.specs.Ahead.{brings_now}
use Rattle.arimaa_results.specs.Layers.{keeps, IsKept}
use Rattle.arimaa_results.specs.Stops.{is_room, is_work}
use Rattle.arimaa_results.proofs.Adding.{added_ok, added_err, added-nothing, added-weaker}
use Rattle.arimaa_results.proofs.Bringing.{brings-zero}
use Rattle.arimaa_results.proofs.layer_lists.take.Goals as goal

pub returns-in-Err-clause-filled : goal.returns-in-Err-clause-filled
returns-in-Err-clause-filled c = rw brings-zero (added_err same_position c.place_end.result _ c.in-Err.is c.place_end.ensures.filled)

pub returns-in-Err-clause-kept : goal.returns-in-Err-clause-kept
returns-in-Err-clause-kept c =
    let old = c.args.region.now.work in
    subst (λ w. IsKept old w false false (keeps c.args.state.now)) (sym c.place_end.ensures.work) (added-nothing same_words old.room old.segments (keeps c.args.state.now))

pub returns-in-Ok-clause-filled : goal.returns-in-Ok-clause-filled
returns-in-Ok-clause-filled c =
    let r = c.keep.result in
    rw brings-zero
    (subst (λ h. IsFilled c.args.region.now h (is_ok r) (is_room r) (brings_now c.args.barred.now c.args.state.now)) (sym c.keep.ensures.segments)
    (added-weaker same_position _ _ c.keep.ensures.never (added_ok same_position c.place_end.result _ c.in-Ok.is c.place_end.ensures.filled)))

pub returns-in-Ok-clause-kept : goal.returns-in-Ok-clause-kept
returns-in-Ok-clause-kept c =
    let r = c.keep.result in
    subst (λ w. IsKept w c.keep.new.region.work (is_ok r) (is_work r) (keeps c.args.state.now)) c.place_end.ensures.work c.keep.ensures.kept
