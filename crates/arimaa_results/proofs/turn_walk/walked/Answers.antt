use Rattle.std.proofs.Common.{ap, ◌∙◌, ◌≡◌, ◌+◌, ◌<◌, length, sym, subst}
use Rattle.arimaa_region.specs.Same.{same_position}
use Rattle.arimaa_region.specs.Segments.{Held}
use Rattle.arimaa_model.specs.Results.{next}
use Rattle.arimaa_results.proofs.Adding.{added_ok, added_err}
use Rattle.arimaa_results.proofs.Next.{next-firsts}
use Rattle.arimaa_results.proofs.Lemmas.Opened.{opened, opened_whole, opened_many}
use Rattle.arimaa_results.proofs.turn_walk.walked.Goals as goal

pub returns-in-Ok-clause-filled : goal.returns-in-Ok-clause-filled
returns-in-Ok-clause-filled c =
    let barred = c.args.barred.now in
    let p = c.args.p.now in
    let work : c.fill_turns.new.region.work ≡ c.args.region.now.work = c.fill_turns.ensures.work ∙ ap (λ (h : Held). h.work) c.mark-mark.ensures.opened in
    opened_whole c.args.region.now c.mark-mark.new.self c.fill_turns.new.region (next barred p) c.mark-mark.ensures.opened (next-firsts barred p)
    (added_ok same_position c.fill_turns.result _ c.in-Ok.is c.fill_turns.ensures.filled)
    ∙ ap (λ w. opened c.args.region.now w (next barred p)) work

pub returns-in-Err-clause-full : goal.returns-in-Err-clause-full
returns-in-Err-clause-full c =
    let barred = c.args.barred.now in
    let p = c.args.p.now in
    let live = c.live-live.ensures.count in
    let many = opened_many c.args.region.now c.mark-mark.new.self c.fill_turns.new.region (next barred p) c.mark-mark.ensures.opened (next-firsts barred p)
    (added_err same_position c.fill_turns.result _ c.in-Err.is c.fill_turns.ensures.filled) in
    (live, subst (λ n. c.args.region.now.room < n + length (next barred p)) (sym live) many)
