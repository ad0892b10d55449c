use Rattle.std.proofs.Common.{◌≡◌, ◌+◌, ◌<◌, List, [], ◌∷◌, length, sym, ◌∙◌, ap, subst}
use Rattle.std.specs.Prelude.{is_ok, OnOk}
use Rattle.std.specs.List.{flat_map}
use Rattle.std.proofs.lemmas.Bool.{false≢true, false_from_ne_true}
use Rattle.arimaa_board.specs.declared.position.Position.{Position}
use Rattle.arimaa_model.specs.Results.{next}
use Rattle.arimaa_region.specs.Segments.{Held, live_of}
use Rattle.arimaa_results.specs.Additions.{IsFilled}
use Rattle.arimaa_results.specs.Layers.{layers_to, brought_from}
use Rattle.arimaa_results.specs.Stops.{for_won, is_room, is_work, is_won}
use Rattle.arimaa_results.proofs.Distinct.{layers-distinct}
use Rattle.arimaa_results.proofs.Layers.{layered-firsts}
use Rattle.arimaa_results.proofs.Lemmas.Opened.{opened_whole, opened_many}
use Rattle.arimaa_results.proofs.Stage.{if_room, if_work}
use Rattle.arimaa_results.proofs.layer_lists.layered.Goals as goal

pub returns-in-Ok-clause-filled : goal.returns-in-Ok-clause-filled
returns-in-Ok-clause-filled c =
    let barred = c.args.barred.now in
    let p = c.args.p.now in
    let mid = c.mark-mark.new.self in
    let new = c.fill_layers.new.region in
    let r = c.fill_layers.result in
    let adds : List Position = flat_map (brought_from barred p) (0 ∷ 1 ∷ 2 ∷ 3 ∷ []) in
    opened_whole c.args.region.now mid new (next barred p) c.mark-mark.ensures.opened (layered-firsts p c.at-corner.ensures.size barred)
    (subst (λ v. IsFilled mid new v (is_room r) adds) (ap is_ok c.in-Ok.is) c.fill_layers.ensures.filled)

pub returns-in-Err-clause-room : goal.returns-in-Err-clause-room
returns-in-Err-clause-room c =
    let barred = c.args.barred.now in
    let p = c.args.p.now in
    let old = c.args.region.now in
    let mid = c.mark-mark.new.self in
    let new = c.fill_layers.new.region in
    let r = c.fill_layers.result in
    let live = c.live-live.ensures.count in
    let adds : List Position = flat_map (brought_from barred p) (0 ∷ 1 ∷ 2 ∷ 3 ∷ []) in
    rw c.full_by.ensures
    (if_room c.in-Err.stop c.live-live.result (λ n. (n ≡ length (live_of old.segments)) × (old.room < n + length (next barred p))) (λ e.
    let many = opened_many old mid new (next barred p) c.mark-mark.ensures.opened (layered-firsts p c.at-corner.ensures.size barred)
    (subst (λ v. IsFilled mid new (is_ok r) v adds) (ap is_room c.in-Err.is ∙ e) c.fill_layers.ensures.filled) in
    (live, subst (λ n. old.room < n + length (next barred p)) (sym live) many)))

pub returns-in-Ok-clause-kept : goal.returns-in-Ok-clause-kept
returns-in-Ok-clause-kept c =
    subst (λ r. OnOk r (c.fill_layers.new.region.work.segments ≡ layers_to c.args.p.now 3)) c.in-Ok.is c.fill_layers.ensures.kept ∙ layers-distinct c.args.p.now c.at-corner.ensures.size

pub returns-in-Err-clause-work : goal.returns-in-Err-clause-work
returns-in-Err-clause-work c =
    let p = c.args.p.now in
    let same : c.mark-mark.new.self.work.room ≡ c.args.region.now.work.room = ap (λ (h : Held). h.work.room) c.mark-mark.ensures.opened in
    rw (c.full_by.ensures, ← same)
    (if_work c.in-Err.stop c.live-live.result (false_from_ne_true (for_won c.in-Err.stop) (λ e. false≢true (c.fill_layers.ensures.won (ap is_won c.in-Err.is ∙ e)))) (λ e. subst (λ ls. c.mark-mark.new.self.work.room < length (live_of ls)) (layers-distinct p c.at-corner.ensures.size) (c.fill_layers.ensures.work (ap is_work c.in-Err.is ∙ e))))

pub full_by-requires : goal.full_by-requires
full_by-requires c = false_from_ne_true (for_won c.in-Err.stop) (λ e. false≢true (c.fill_layers.ensures.won (ap is_won c.in-Err.is ∙ e)))
