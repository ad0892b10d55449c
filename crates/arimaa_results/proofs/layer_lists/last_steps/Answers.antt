use Rattle.std.proofs.Common.{◌≡◌, ◌+◌, ◌-◌, ◌<◌, ◌≤◌, ℕ, List, length, drop, get_or, ap, refl, sym, subst, ◌∙◌, arith, Result, Ok}
use Rattle.std.specs.Prelude.{is_ok, is_err, IfOk}
use Rattle.arimaa_board.specs.declared.position.Position.{Position}
use Rattle.arimaa_region.specs.Same.{same_position}
use Rattle.arimaa_region.specs.Segments.{Stacked, top, below_top, live_of}
use Rattle.arimaa_step.specs.declared.state.TurnState.{TurnState}
use Rattle.arimaa_step.specs.StateWords.{state_in_planes}
use Rattle.arimaa_results.specs.declared.turn_walk.NoRoom.{NoRoom}
use Rattle.arimaa_results.specs.Additions.{IsFilled}
use Rattle.arimaa_results.specs.LastSteps.{brings_in_order, brings_first, brings_last, left_of_kept}
use Rattle.arimaa_results.specs.Layers.{layer, layers_to, brought_from}
use Rattle.arimaa_results.specs.NextStates.{next_pairs}
use Rattle.arimaa_results.proofs.Adding.{leads_start, leads_ok, leads_stop, leads_end, leads_off, under_live, added_err, added-like}
use Rattle.arimaa_results.proofs.OrderedLayers.{fourth_in_order}
use Rattle.arimaa_results.proofs.Kept.{kept_start, last_start, last_split, last_end}
use Rattle.arimaa_results.proofs.Layers.{reading, IsRead, live-more, layers_to-suc, layers-count}
use Rattle.arimaa_results.proofs.layer_lists.last_steps.Goals as goal

pub work_get-requires : goal.work_get-requires
work_get-requires c =
    let p = c.args.p.now in
    let stands : c.loop-place.region.work.segments ≡ layers_to p 3 = ap (λ (h : Stacked (List ℕ)). h.segments) c.loop-place.invariant.work ∙ c.requires.layers in
    let total = ap (λ s. length (live_of s)) stands in
    omega (arith, live-more p 2, c.loop-place-test.true, c.requires.third)

pub from_planes-state-requires : goal.from_planes-state-requires
from_planes-state-requires c =
    let p = c.args.p.now in
    let w = c.work_get.result in
    let i = c.loop-place.place - c.args.second in
    let stands : c.loop-place.region.work.segments ≡ layers_to p 3 = ap (λ (h : Stacked (List ℕ)). h.segments) c.loop-place.invariant.work ∙ c.requires.layers in
    let count = ap (length {A = List (List ℕ)}) stands in
    let some : 0 < length c.loop-place.region.work.segments = omega (arith, layers-count p 3) in
    let read : IsRead p 1 i w = reading p c.at-corner.ensures.size 1 (omega arith) c.loop-place.place c.args.second c.args.third (layers_to p 2) c.loop-place.region.work.segments
    c.requires.second refl c.requires.third c.loop-place.auto.place c.loop-place-test.true some (ap below_top (stands ∙ layers_to-suc p 2)) w c.work_get.ensures in
    (read.of.0, read.few, read.of.2)

pub loop-place-init : goal.loop-place-init
loop-place-init c =
    let p = c.args.p.now in
    record {
      filled = leads_start same_position c.args.region.now.room c.args.region.now.segments
          (last_start (brings_in_order c.args.barred.now) p c.args.second _ (layer p 3) (layer p 2) (kept_start p c.args.third c.args.region.now.work.segments c.requires.layers c.requires.third));
      work = refl;
    }

pub loop-place-preserved : goal.loop-place-preserved
loop-place-preserved c =
    let p = c.args.p.now in
    let barred = c.args.barred.now in
    let w = c.work_get.result in
    let L = layer p 2 in
    let i = c.loop-place.place - c.args.second in
    let stands : c.loop-place.region.work.segments ≡ layers_to p 3 = ap (λ (h : Stacked (List ℕ)). h.segments) c.loop-place.invariant.work ∙ c.requires.layers in
    let count = ap (length {A = List (List ℕ)}) stands in
    let some : 0 < length c.loop-place.region.work.segments = omega (arith, layers-count p 3) in
    let read : IsRead p 1 i w = reading p c.at-corner.ensures.size 1 (omega arith) c.loop-place.place c.args.second c.args.third (layers_to p 2) c.loop-place.region.work.segments
    c.requires.second refl c.requires.third c.loop-place.auto.place c.loop-place-test.true some (ap below_top (stands ∙ layers_to-suc p 2)) w c.work_get.ensures in
    let live = live_of c.args.region.now.work.segments in
    let kept = drop c.loop-place.next live in
    let st : TurnState = c.from_planes-state.result in
    let r = c.last_steps_from.result in
    let state : st ≡ state_in_planes p (get_or L i w) = c.from_planes-state.ensures read.of.0 read.few read.of.2 ∙ (sym read.state ∙ ap (state_in_planes p) (sym read.at)) in
    let X : List Position = brings_first (brings_in_order barred) st kept (next_pairs st) in
    let filled : IsFilled c.loop-place.region c.last_steps_from.new.region (is_ok r) (is_err r) X =
    subst (λ (h : Stacked (List ℕ)). IsFilled c.loop-place.region c.last_steps_from.new.region (is_ok r) (is_err r) (brings_first (brings_in_order barred) st (drop c.loop-place.next (live_of h.segments)) (next_pairs st))) c.loop-place.invariant.work c.last_steps_from.ensures.filled in
    let n = c.in-Ok.after in
    let answer : Result ℕ NoRoom = Ok n in
    let given : IfOk answer (λ m. drop m live ≡ left_of_kept kept (next_pairs st)) =
    subst (λ (o : Result ℕ NoRoom). IfOk o (λ m. drop m live ≡ left_of_kept kept (next_pairs st))) c.in-Ok.is
    (subst (λ (h : Stacked (List ℕ)). IfOk r (λ m. drop m (live_of h.segments) ≡ left_of_kept (drop c.loop-place.next (live_of h.segments)) (next_pairs st))) c.loop-place.invariant.work c.last_steps_from.ensures.next) in
    let next : c.loop-place.place + 1 - c.args.second ≡ i + 1 = omega (arith, c.loop-place.auto.place) in
    record {
      filled = rw next (leads_ok same_position X (brings_last (brings_in_order barred) p (drop n live) (drop (i + 1) L)) (last_split (brings_in_order barred) p kept (drop n live) L i w st read.inside state given) c.loop-place.invariant.filled (ap is_ok c.in-Ok.is) filled);
      work = c.last_steps_from.ensures.work ∙ c.loop-place.invariant.work;
    }

pub returns-in_default-clause-filled : goal.returns-in_default-clause-filled
returns-in_default-clause-filled c =
    let p = c.args.p.now in
    let barred = c.args.barred.now in
    let w = c.work_get.result in
    let L = layer p 2 in
    let i = c.loop-place.place - c.args.second in
    let stands : c.loop-place.region.work.segments ≡ layers_to p 3 = ap (λ (h : Stacked (List ℕ)). h.segments) c.loop-place.invariant.work ∙ c.requires.layers in
    let count = ap (length {A = List (List ℕ)}) stands in
    let some : 0 < length c.loop-place.region.work.segments = omega (arith, layers-count p 3) in
    let read : IsRead p 1 i w = reading p c.at-corner.ensures.size 1 (omega arith) c.loop-place.place c.args.second c.args.third (layers_to p 2) c.loop-place.region.work.segments
    c.requires.second refl c.requires.third c.loop-place.auto.place c.loop-place-test.true some (ap below_top (stands ∙ layers_to-suc p 2)) w c.work_get.ensures in
    let live = live_of c.args.region.now.work.segments in
    let kept = drop c.loop-place.next live in
    let st : TurnState = c.from_planes-state.result in
    let r = c.last_steps_from.result in
    let state : st ≡ state_in_planes p (get_or L i w) = c.from_planes-state.ensures read.of.0 read.few read.of.2 ∙ (sym read.state ∙ ap (state_in_planes p) (sym read.at)) in
    let X : List Position = brings_first (brings_in_order barred) st kept (next_pairs st) in
    let filled : IsFilled c.loop-place.region c.last_steps_from.new.region (is_ok r) (is_err r) X =
    subst (λ (h : Stacked (List ℕ)). IsFilled c.loop-place.region c.last_steps_from.new.region (is_ok r) (is_err r) (brings_first (brings_in_order barred) st (drop c.loop-place.next (live_of h.segments)) (next_pairs st))) c.loop-place.invariant.work c.last_steps_from.ensures.filled in
    let after = left_of_kept kept (next_pairs st) in
    let whole = brings_last (brings_in_order barred) p (layer p 3) L in
    added-like same_position whole (brought_from barred p 3) (fourth_in_order barred p c.at-corner.ensures.size (top c.args.region.now.segments))
    (leads_stop same_position X (brings_last (brings_in_order barred) p after (drop (i + 1) L)) (last_split (brings_in_order barred) p kept after L i w st read.inside state refl) c.loop-place.invariant.filled
    (added_err same_position r _ c.in_default.is filled))

pub returns-clause-filled : goal.returns-clause-filled
returns-clause-filled c =
    let p = c.args.p.now in
    let barred = c.args.barred.now in
    let i = c.loop-place.place - c.args.second in
    let past : length (layer p 2) ≤ i = omega (arith, c.requires.second, c.requires.third, live-more p 1) in
    added-like same_position (brings_last (brings_in_order barred) p (layer p 3) (layer p 2)) (brought_from barred p 3) (fourth_in_order barred p c.at-corner.ensures.size (top c.args.region.now.segments))
    (leads_end same_position (last_end (brings_in_order barred) p _ (layer p 2) i past) c.loop-place.invariant.filled)

pub ends_list-requires : goal.ends_list-requires
ends_list-requires c = under_live c.last_steps_from.new.region.segments c.loop-place.region.segments c.live-from.result c.last_steps_from.ensures.filled.below_kept c.live-from.ensures.count

pub returns-then-ends_list-clause-filled : goal.returns-then-ends_list-clause-filled
returns-then-ends_list-clause-filled c =
    let p = c.args.p.now in
    let barred = c.args.barred.now in
    let w = c.work_get.result in
    let L = layer p 2 in
    let i = c.loop-place.place - c.args.second in
    let stands : c.loop-place.region.work.segments ≡ layers_to p 3 = ap (λ (h : Stacked (List ℕ)). h.segments) c.loop-place.invariant.work ∙ c.requires.layers in
    let count = ap (length {A = List (List ℕ)}) stands in
    let some : 0 < length c.loop-place.region.work.segments = omega (arith, layers-count p 3) in
    let read : IsRead p 1 i w = reading p c.at-corner.ensures.size 1 (omega arith) c.loop-place.place c.args.second c.args.third (layers_to p 2) c.loop-place.region.work.segments
    c.requires.second refl c.requires.third c.loop-place.auto.place c.loop-place-test.true some (ap below_top (stands ∙ layers_to-suc p 2)) w c.work_get.ensures in
    let live = live_of c.args.region.now.work.segments in
    let kept = drop c.loop-place.next live in
    let st : TurnState = c.from_planes-state.result in
    let r = c.last_steps_from.result in
    let state : st ≡ state_in_planes p (get_or L i w) = c.from_planes-state.ensures read.of.0 read.few read.of.2 ∙ (sym read.state ∙ ap (state_in_planes p) (sym read.at)) in
    let X : List Position = brings_first (brings_in_order barred) st kept (next_pairs st) in
    let filled : IsFilled c.loop-place.region c.last_steps_from.new.region (is_ok r) (is_err r) X =
    subst (λ (h : Stacked (List ℕ)). IsFilled c.loop-place.region c.last_steps_from.new.region (is_ok r) (is_err r) (brings_first (brings_in_order barred) st (drop c.loop-place.next (live_of h.segments)) (next_pairs st))) c.loop-place.invariant.work c.last_steps_from.ensures.filled in
    let n = c.in-Ok.after in
    let answer : Result ℕ NoRoom = Ok n in
    let given : IfOk answer (λ m. drop m live ≡ left_of_kept kept (next_pairs st)) =
    subst (λ (o : Result ℕ NoRoom). IfOk o (λ m. drop m live ≡ left_of_kept kept (next_pairs st))) c.in-Ok.is
    (subst (λ (h : Stacked (List ℕ)). IfOk r (λ m. drop m (live_of h.segments) ≡ left_of_kept (drop c.loop-place.next (live_of h.segments)) (next_pairs st))) c.loop-place.invariant.work c.last_steps_from.ensures.next) in
    added-like same_position (brings_last (brings_in_order barred) p (layer p 3) L) (brought_from barred p 3) (fourth_in_order barred p c.at-corner.ensures.size (top c.args.region.now.segments))
    (leads_off same_position (leads_ok same_position X (brings_last (brings_in_order barred) p (drop n live) (drop (i + 1) L)) (last_split (brings_in_order barred) p kept (drop n live) L i w st read.inside state given) c.loop-place.invariant.filled (ap is_ok c.in-Ok.is) filled))
