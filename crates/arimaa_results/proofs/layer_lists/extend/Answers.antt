use Rattle.std.proofs.Common.{ap, sym, subst, ◌∙◌}
use Rattle.std.specs.Prelude.{is_ok}
use Rattle.std.specs.List.{flat_map}
use Rattle.arimaa_results.specs.Additions.{IsFilled}
use Rattle.arimaa_results.specs.Ahead.{brings}
use Rattle.arimaa_results.specs.Layers.{keeps, IsKept}
use Rattle.arimaa_results.specs.NextStates.{next_gives}
use Rattle.arimaa_results.specs.Stops.{is_room, is_work}
use Rattle.arimaa_results.proofs.Bringing.{brings-suc}
use Rattle.arimaa_results.proofs.StatePairs.{pairs_give}
use Rattle.arimaa_results.proofs.layer_lists.extend.Goals as goal

pub returns-clause-filled : goal.returns-clause-filled
returns-clause-filled c =
    let st = c.args.state.now in
    let barred = c.args.barred.now in
    let r = c.take_all.result in
    subst (λ xs. IsFilled c.args.region.now c.take_all.new.region (is_ok r) (is_room r) xs)
    (ap (flat_map (next_gives (brings barred 0))) c.of.ensures ∙ (pairs_give (brings barred 0) st ∙ sym (brings-suc barred 0 st))) c.take_all.ensures.filled

pub returns-clause-kept : goal.returns-clause-kept
returns-clause-kept c =
    let r = c.take_all.result in
    subst (λ xs. IsKept c.args.region.now.work c.take_all.new.region.work (is_ok r) (is_work r) xs)
    (ap (flat_map (next_gives keeps)) c.of.ensures ∙ pairs_give keeps c.args.state.now) c.take_all.ensures.kept
