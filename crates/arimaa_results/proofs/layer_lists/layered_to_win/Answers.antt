use Rattle.std.proofs.Common.{◌+◌, ◌<◌, List, [], ◌∷◌, length, Err, sym, ◌∙◌, ap, subst}
use Rattle.std.specs.Prelude.{is_ok}
use Rattle.std.specs.List.{flat_map}
use Rattle.arimaa_board.specs.declared.position.Position.{Position}
use Rattle.arimaa_model.specs.Results.{next}
use Rattle.arimaa_region.specs.Segments.{top}
use Rattle.arimaa_results.specs.Additions.{IsFilled}
use Rattle.arimaa_results.specs.Layers.{brought_from}
use Rattle.arimaa_results.specs.Stops.{is_room, is_won}
use Rattle.arimaa_results.proofs.Layers.{layered-firsts}
use Rattle.arimaa_results.proofs.Lemmas.Opened.{opened_many, opened_below, opened_count, opened_room, opened_begun, opened_top, listed_whole, listed_part}
use Rattle.arimaa_results.proofs.layer_lists.layered_to_win.Goals as goal

pub returns-in-Ok-clause-opened : goal.returns-in-Ok-clause-opened
returns-in-Ok-clause-opened c =
    let barred = c.args.barred.now in
    let p = c.args.p.now in
    opened_count c.args.region.now c.mark-opened.new.self c.fill_layers.new.region (next barred p) c.mark-opened.ensures.opened (layered-firsts p c.at-corner.ensures.size barred) c.fill_layers.ensures.filled

pub returns-in-Ok-clause-below : goal.returns-in-Ok-clause-below
returns-in-Ok-clause-below c =
    let barred = c.args.barred.now in
    let p = c.args.p.now in
    opened_below c.args.region.now c.mark-opened.new.self c.fill_layers.new.region (next barred p) c.mark-opened.ensures.opened (layered-firsts p c.at-corner.ensures.size barred) c.fill_layers.ensures.filled

pub returns-in-Ok-clause-room_kept : goal.returns-in-Ok-clause-room_kept
returns-in-Ok-clause-room_kept c =
    let barred = c.args.barred.now in
    let p = c.args.p.now in
    opened_room c.args.region.now c.mark-opened.new.self c.fill_layers.new.region (next barred p) c.mark-opened.ensures.opened (layered-firsts p c.at-corner.ensures.size barred) c.fill_layers.ensures.filled

pub returns-in-Won-clause-opened : goal.returns-in-Won-clause-opened
returns-in-Won-clause-opened c =
    let barred = c.args.barred.now in
    let p = c.args.p.now in
    opened_count c.args.region.now c.mark-opened.new.self c.fill_layers.new.region (next barred p) c.mark-opened.ensures.opened (layered-firsts p c.at-corner.ensures.size barred) c.fill_layers.ensures.filled

pub returns-in-Won-clause-below : goal.returns-in-Won-clause-below
returns-in-Won-clause-below c =
    let barred = c.args.barred.now in
    let p = c.args.p.now in
    opened_below c.args.region.now c.mark-opened.new.self c.fill_layers.new.region (next barred p) c.mark-opened.ensures.opened (layered-firsts p c.at-corner.ensures.size barred) c.fill_layers.ensures.filled

pub returns-in-Won-clause-room_kept : goal.returns-in-Won-clause-room_kept
returns-in-Won-clause-room_kept c =
    let barred = c.args.barred.now in
    let p = c.args.p.now in
    opened_room c.args.region.now c.mark-opened.new.self c.fill_layers.new.region (next barred p) c.mark-opened.ensures.opened (layered-firsts p c.at-corner.ensures.size barred) c.fill_layers.ensures.filled

pub returns-in-Ok-clause-listed : goal.returns-in-Ok-clause-listed
returns-in-Ok-clause-listed c =
    let barred = c.args.barred.now in
    let p = c.args.p.now in
    let all = opened_top c.args.region.now c.mark-opened.new.self c.fill_layers.new.region (next barred p) c.mark-opened.ensures.opened (layered-firsts p c.at-corner.ensures.size barred) c.fill_layers.ensures.filled (ap is_ok c.in-Ok.is) in
    listed_whole _ barred p (top c.fill_layers.new.region.segments) all

pub returns-in-Won-clause-listed : goal.returns-in-Won-clause-listed
returns-in-Won-clause-listed c =
    let barred = c.args.barred.now in
    let p = c.args.p.now in
    let begun = opened_begun c.args.region.now c.mark-opened.new.self c.fill_layers.new.region (next barred p) c.mark-opened.ensures.opened (layered-firsts p c.at-corner.ensures.size barred) c.fill_layers.ensures.filled (ap is_ok c.in-Err.is) in
    listed_part _ barred p (top c.fill_layers.new.region.segments) begun (c.fill_layers.ensures.won (ap is_won (c.in-Err.is ∙ ap Err c.in-Won.is)))

pub returns-in-Room-clause-room : goal.returns-in-Room-clause-room
returns-in-Room-clause-room c =
    let barred = c.args.barred.now in
    let p = c.args.p.now in
    let old = c.args.region.now in
    let r = c.fill_layers.result in
    let live = c.live-live.ensures.count in
    let adds : List Position = flat_map (brought_from barred p) (0 ∷ 1 ∷ 2 ∷ 3 ∷ []) in
    let many = opened_many old c.mark-opened.new.self c.fill_layers.new.region (next barred p) c.mark-opened.ensures.opened (layered-firsts p c.at-corner.ensures.size barred)
    (subst (λ v. IsFilled c.mark-opened.new.self c.fill_layers.new.region (is_ok r) v adds) (ap is_room (c.in-Err.is ∙ ap Err c.in-Room.is)) c.fill_layers.ensures.filled) in
    (live, subst (λ n. old.room < n + length (next barred p)) (sym live) many)
