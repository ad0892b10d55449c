use Rattle.std.proofs.Common.{◌≡◌, ◌+◌, ◌-◌, ◌<◌, ◌≤◌, suc, ℕ, List, length, drop, get_or, ap, refl, sym, subst, ◌∙◌, arith, Err, true≢false}
use Rattle.std.specs.Prelude.{is_ok}
use Rattle.std.specs.List.{flat_map}
use Rattle.std.proofs.lemmas.Result.{err_from_is_err_and}
use Rattle.arimaa_board.specs.declared.position.Position.{Position}
use Rattle.arimaa_region.specs.Same.{same_words}
use Rattle.arimaa_region.specs.Same.{same_position}
use Rattle.arimaa_region.specs.Segments.{live_of}
use Rattle.arimaa_step.specs.StateWords.{state_in_planes}
use Rattle.arimaa_results.specs.Additions.{IsFilled}
use Rattle.arimaa_results.specs.Ahead.{next_states, brings}
use Rattle.arimaa_results.specs.Layers.{keeps, planes_after, layer, brings_next, IsKept}
use Rattle.arimaa_results.specs.Stops.{is_room, is_work, is_won}
use Rattle.arimaa_results.proofs.Adding.{leads_ok, leads_err, leads_end, leads_off, under_live, items_split, items_end}
use Rattle.arimaa_results.proofs.Layers.{reading, IsRead, live-more, layer-suc, planes_after-is, layers-count}
use Rattle.arimaa_results.proofs.Stage.{with_layer, stage-kept, stage-work}
use Rattle.arimaa_results.proofs.layer_lists.next_layer.Goals as goal

pub work_layer-requires : goal.work_layer-requires
work_layer-requires c = rw c.requires.layers (omega (arith, layers-count c.args.p.now (suc c.args.lower)))

pub from_planes-state-requires : goal.from_planes-state-requires
from_planes-state-requires c =
    let p = c.args.p.now in
    let n = c.args.lower in
    let w = c.work_get.result in
    let L = layer p (suc n) in
    let i = c.loop-place.place - c.args.first in
    let some : 0 < length c.loop-place.region.work.segments = omega (arith, c.loop-place.invariant.kept.open_kept) in
    let read : IsRead p n i w = reading p c.at-corner.ensures.size n (omega arith) c.loop-place.place c.args.first c.work_len-end.result c.args.region.now.work.segments c.loop-place.region.work.segments
    c.requires.first c.requires.layers c.work_len-end.ensures.count c.loop-place.auto.place c.loop-place-test.true some c.loop-place.invariant.kept.below_same w c.work_get.ensures in
    (read.of.0, read.few, read.of.2)

pub loop-place-preserved : goal.loop-place-preserved
loop-place-preserved c =
    let p = c.args.p.now in
    let n = c.args.lower in
    let w = c.work_get.result in
    let L = layer p (suc n) in
    let i = c.loop-place.place - c.args.first in
    let some : 0 < length c.loop-place.region.work.segments = omega (arith, c.loop-place.invariant.kept.open_kept) in
    let read : IsRead p n i w = reading p c.at-corner.ensures.size n (omega arith) c.loop-place.place c.args.first c.work_len-end.result c.args.region.now.work.segments c.loop-place.region.work.segments
    c.requires.first c.requires.layers c.work_len-end.ensures.count c.loop-place.auto.place c.loop-place-test.true some c.loop-place.invariant.kept.below_same w c.work_get.ensures in
    let F : List ℕ → List Position = brings_next c.args.barred.now p in
    let K : List ℕ → List (List ℕ) = planes_after p in
    let r = c.extend.result in
    let state : c.from_planes-state.result ≡ state_in_planes p (get_or L i w) = c.from_planes-state.ensures read.of.0 read.few read.of.2 ∙ (sym read.state ∙ ap (state_in_planes p) (sym read.at)) in
    let filled : IsFilled c.loop-place.region c.extend.new.region (is_ok r) (is_room r) (F (get_or L i w)) = subst (λ st. IsFilled c.loop-place.region c.extend.new.region (is_ok r) (is_room r) (brings c.args.barred.now 1 st)) state c.extend.ensures.filled in
    let kept : IsKept c.loop-place.region.work c.extend.new.region.work (is_ok r) (is_work r) (K (get_or L i w)) = rw planes_after-is (subst (λ st. IsKept c.loop-place.region.work c.extend.new.region.work (is_ok r) (is_work r) (flat_map keeps (next_states st))) state c.extend.ensures.kept) in
    let next : c.loop-place.place + 1 - c.args.first ≡ i + 1 = omega (arith, c.loop-place.auto.place) in
    let ok = ap is_ok c.in_ok-extend.was in
    record {
      filled = rw next (leads_ok same_position (F (get_or L i w)) (flat_map F (drop (i + 1) L)) (items_split F L i w read.inside) c.loop-place.invariant.filled ok filled);
      kept = rw next (leads_ok same_words (K (get_or L i w)) (flat_map K (drop (i + 1) L)) (items_split K L i w read.inside) c.loop-place.invariant.kept ok kept);
    }

pub returns-in_err-extend-clause-filled : goal.returns-in_err-extend-clause-filled
returns-in_err-extend-clause-filled c =
    let p = c.args.p.now in
    let n = c.args.lower in
    let w = c.work_get.result in
    let L = layer p (suc n) in
    let i = c.loop-place.place - c.args.first in
    let some : 0 < length c.loop-place.region.work.segments = omega (arith, c.loop-place.invariant.kept.open_kept) in
    let read : IsRead p n i w = reading p c.at-corner.ensures.size n (omega arith) c.loop-place.place c.args.first c.work_len-end.result c.args.region.now.work.segments c.loop-place.region.work.segments
    c.requires.first c.requires.layers c.work_len-end.ensures.count c.loop-place.auto.place c.loop-place-test.true some c.loop-place.invariant.kept.below_same w c.work_get.ensures in
    let F : List ℕ → List Position = brings_next c.args.barred.now p in
    let K : List ℕ → List (List ℕ) = planes_after p in
    let r = c.extend.result in
    let state : c.from_planes-state.result ≡ state_in_planes p (get_or L i w) = c.from_planes-state.ensures read.of.0 read.few read.of.2 ∙ (sym read.state ∙ ap (state_in_planes p) (sym read.at)) in
    let filled : IsFilled c.loop-place.region c.extend.new.region (is_ok r) (is_room r) (F (get_or L i w)) = subst (λ st. IsFilled c.loop-place.region c.extend.new.region (is_ok r) (is_room r) (brings c.args.barred.now 1 st)) state c.extend.ensures.filled in
    let kept : IsKept c.loop-place.region.work c.extend.new.region.work (is_ok r) (is_work r) (K (get_or L i w)) = rw planes_after-is (subst (λ st. IsKept c.loop-place.region.work c.extend.new.region.work (is_ok r) (is_work r) (flat_map keeps (next_states st))) state c.extend.ensures.kept) in
    let raised = err_from_is_err_and c.from_residual.result c.from_residual.ensures.1 in
    let same : r ≡ c.from_residual.result = c.in_err-extend.was ∙ (sym (ap Err raised.2) ∙ sym raised.1) in
    subst (λ o. IsFilled c.args.region.now c.extend.new.region (is_ok o) (is_room o) (flat_map F L)) same
    (leads_err same_position (F (get_or L i w)) (flat_map F (drop (i + 1) L)) (items_split F L i w read.inside) c.loop-place.invariant.filled (ap is_ok c.in_err-extend.was) filled)

pub returns-in_err-extend-clause-room : goal.returns-in_err-extend-clause-room
returns-in_err-extend-clause-room c =
    let p = c.args.p.now in
    let n = c.args.lower in
    let w = c.work_get.result in
    let L = layer p (suc n) in
    let i = c.loop-place.place - c.args.first in
    let some : 0 < length c.loop-place.region.work.segments = omega (arith, c.loop-place.invariant.kept.open_kept) in
    let read : IsRead p n i w = reading p c.at-corner.ensures.size n (omega arith) c.loop-place.place c.args.first c.work_len-end.result c.args.region.now.work.segments c.loop-place.region.work.segments
    c.requires.first c.requires.layers c.work_len-end.ensures.count c.loop-place.auto.place c.loop-place-test.true some c.loop-place.invariant.kept.below_same w c.work_get.ensures in
    let F : List ℕ → List Position = brings_next c.args.barred.now p in
    let K : List ℕ → List (List ℕ) = planes_after p in
    let r = c.extend.result in
    let state : c.from_planes-state.result ≡ state_in_planes p (get_or L i w) = c.from_planes-state.ensures read.of.0 read.few read.of.2 ∙ (sym read.state ∙ ap (state_in_planes p) (sym read.at)) in
    let filled : IsFilled c.loop-place.region c.extend.new.region (is_ok r) (is_room r) (F (get_or L i w)) = subst (λ st. IsFilled c.loop-place.region c.extend.new.region (is_ok r) (is_room r) (brings c.args.barred.now 1 st)) state c.extend.ensures.filled in
    let kept : IsKept c.loop-place.region.work c.extend.new.region.work (is_ok r) (is_work r) (K (get_or L i w)) = rw planes_after-is (subst (λ st. IsKept c.loop-place.region.work c.extend.new.region.work (is_ok r) (is_work r) (flat_map keeps (next_states st))) state c.extend.ensures.kept) in
    let all : IsKept (with_layer c.args.region.now.work.room p (suc n)) c.extend.new.region.work (is_ok r) (is_work r) (flat_map K L) =
    leads_err same_words (K (get_or L i w)) (flat_map K (drop (i + 1) L)) (items_split K L i w read.inside) c.loop-place.invariant.kept (ap is_ok c.in_err-extend.was) kept in
    all.room_kept

pub returns-in_err-extend-clause-work : goal.returns-in_err-extend-clause-work
returns-in_err-extend-clause-work c =
    let p = c.args.p.now in
    let n = c.args.lower in
    let w = c.work_get.result in
    let L = layer p (suc n) in
    let i = c.loop-place.place - c.args.first in
    let some : 0 < length c.loop-place.region.work.segments = omega (arith, c.loop-place.invariant.kept.open_kept) in
    let read : IsRead p n i w = reading p c.at-corner.ensures.size n (omega arith) c.loop-place.place c.args.first c.work_len-end.result c.args.region.now.work.segments c.loop-place.region.work.segments
    c.requires.first c.requires.layers c.work_len-end.ensures.count c.loop-place.auto.place c.loop-place-test.true some c.loop-place.invariant.kept.below_same w c.work_get.ensures in
    let F : List ℕ → List Position = brings_next c.args.barred.now p in
    let K : List ℕ → List (List ℕ) = planes_after p in
    let r = c.extend.result in
    let state : c.from_planes-state.result ≡ state_in_planes p (get_or L i w) = c.from_planes-state.ensures read.of.0 read.few read.of.2 ∙ (sym read.state ∙ ap (state_in_planes p) (sym read.at)) in
    let filled : IsFilled c.loop-place.region c.extend.new.region (is_ok r) (is_room r) (F (get_or L i w)) = subst (λ st. IsFilled c.loop-place.region c.extend.new.region (is_ok r) (is_room r) (brings c.args.barred.now 1 st)) state c.extend.ensures.filled in
    let kept : IsKept c.loop-place.region.work c.extend.new.region.work (is_ok r) (is_work r) (K (get_or L i w)) = rw planes_after-is (subst (λ st. IsKept c.loop-place.region.work c.extend.new.region.work (is_ok r) (is_work r) (flat_map keeps (next_states st))) state c.extend.ensures.kept) in
    let raised = err_from_is_err_and c.from_residual.result c.from_residual.ensures.1 in
    let same : r ≡ c.from_residual.result = c.in_err-extend.was ∙ (sym (ap Err raised.2) ∙ sym raised.1) in
    let all : IsKept (with_layer c.args.region.now.work.room p (suc n)) c.extend.new.region.work (is_ok r) (is_work r) (flat_map K L) =
    leads_err same_words (K (get_or L i w)) (flat_map K (drop (i + 1) L)) (items_split K L i w read.inside) c.loop-place.invariant.kept (ap is_ok c.in_err-extend.was) kept in
    λ e. stage-work p c.args.region.now.work.room (suc n) (with_layer c.args.region.now.work.room p (suc n)) c.extend.new.region.work refl (sym (layer-suc p (suc n))) all (ap is_work same ∙ e)

pub returns-clause-filled : goal.returns-clause-filled
returns-clause-filled c =
    let p = c.args.p.now in
    let n = c.args.lower in
    let L = layer p (suc n) in
    let F : List ℕ → List Position = brings_next c.args.barred.now p in
    let i = c.loop-place.place - c.args.first in
    let total = ap (λ s. length (live_of s)) c.requires.layers in
    let past : length L ≤ i = omega (arith, c.work_len-end.ensures.count, live-more p n) in
    leads_end same_position (items_end F L i past) c.loop-place.invariant.filled

pub returns-clause-room : goal.returns-clause-room
returns-clause-room c =
    let p = c.args.p.now in
    let n = c.args.lower in
    let L = layer p (suc n) in
    let K : List ℕ → List (List ℕ) = planes_after p in
    let i = c.loop-place.place - c.args.first in
    let total = ap (λ s. length (live_of s)) c.requires.layers in
    let past : length L ≤ i = omega (arith, c.work_len-end.ensures.count, live-more p n) in
    let all = leads_end same_words (items_end K L i past) c.loop-place.invariant.kept in
    all.room_kept

pub returns-clause-kept : goal.returns-clause-kept
returns-clause-kept c =
    let p = c.args.p.now in
    let n = c.args.lower in
    let L = layer p (suc n) in
    let K : List ℕ → List (List ℕ) = planes_after p in
    let i = c.loop-place.place - c.args.first in
    let total = ap (λ s. length (live_of s)) c.requires.layers in
    let past : length L ≤ i = omega (arith, c.work_len-end.ensures.count, live-more p n) in
    let all = leads_end same_words (items_end K L i past) c.loop-place.invariant.kept in
    stage-kept p c.args.region.now.work.room (suc n) (with_layer c.args.region.now.work.room p (suc n)) c.loop-place.region.work refl (sym (layer-suc p (suc n))) all refl

pub ends_list-requires : goal.ends_list-requires
ends_list-requires c = under_live c.extend.new.region.segments c.loop-place.region.segments c.live-from.result c.extend.ensures.filled.below_kept c.live-from.ensures.count

pub returns-then-ends_list-clause-filled : goal.returns-then-ends_list-clause-filled
returns-then-ends_list-clause-filled c =
    let p = c.args.p.now in
    let n = c.args.lower in
    let w = c.work_get.result in
    let L = layer p (suc n) in
    let i = c.loop-place.place - c.args.first in
    let some : 0 < length c.loop-place.region.work.segments = omega (arith, c.loop-place.invariant.kept.open_kept) in
    let read : IsRead p n i w = reading p c.at-corner.ensures.size n (omega arith) c.loop-place.place c.args.first c.work_len-end.result c.args.region.now.work.segments c.loop-place.region.work.segments
    c.requires.first c.requires.layers c.work_len-end.ensures.count c.loop-place.auto.place c.loop-place-test.true some c.loop-place.invariant.kept.below_same w c.work_get.ensures in
    let F : List ℕ → List Position = brings_next c.args.barred.now p in
    let K : List ℕ → List (List ℕ) = planes_after p in
    let r = c.extend.result in
    let state : c.from_planes-state.result ≡ state_in_planes p (get_or L i w) = c.from_planes-state.ensures read.of.0 read.few read.of.2 ∙ (sym read.state ∙ ap (state_in_planes p) (sym read.at)) in
    let filled : IsFilled c.loop-place.region c.extend.new.region (is_ok r) (is_room r) (F (get_or L i w)) = subst (λ st. IsFilled c.loop-place.region c.extend.new.region (is_ok r) (is_room r) (brings c.args.barred.now 1 st)) state c.extend.ensures.filled in
    let kept : IsKept c.loop-place.region.work c.extend.new.region.work (is_ok r) (is_work r) (K (get_or L i w)) = rw planes_after-is (subst (λ st. IsKept c.loop-place.region.work c.extend.new.region.work (is_ok r) (is_work r) (flat_map keeps (next_states st))) state c.extend.ensures.kept) in
    let ok = ap is_ok c.in_ok-extend.was in
    leads_off same_position (leads_ok same_position (F (get_or L i w)) (flat_map F (drop (i + 1) L)) (items_split F L i w read.inside) c.loop-place.invariant.filled ok filled)

pub returns-then-ends_list-clause-room : goal.returns-then-ends_list-clause-room
returns-then-ends_list-clause-room c =
    let p = c.args.p.now in
    let n = c.args.lower in
    let w = c.work_get.result in
    let L = layer p (suc n) in
    let i = c.loop-place.place - c.args.first in
    let some : 0 < length c.loop-place.region.work.segments = omega (arith, c.loop-place.invariant.kept.open_kept) in
    let read : IsRead p n i w = reading p c.at-corner.ensures.size n (omega arith) c.loop-place.place c.args.first c.work_len-end.result c.args.region.now.work.segments c.loop-place.region.work.segments
    c.requires.first c.requires.layers c.work_len-end.ensures.count c.loop-place.auto.place c.loop-place-test.true some c.loop-place.invariant.kept.below_same w c.work_get.ensures in
    let F : List ℕ → List Position = brings_next c.args.barred.now p in
    let K : List ℕ → List (List ℕ) = planes_after p in
    let r = c.extend.result in
    let state : c.from_planes-state.result ≡ state_in_planes p (get_or L i w) = c.from_planes-state.ensures read.of.0 read.few read.of.2 ∙ (sym read.state ∙ ap (state_in_planes p) (sym read.at)) in
    let filled : IsFilled c.loop-place.region c.extend.new.region (is_ok r) (is_room r) (F (get_or L i w)) = subst (λ st. IsFilled c.loop-place.region c.extend.new.region (is_ok r) (is_room r) (brings c.args.barred.now 1 st)) state c.extend.ensures.filled in
    let kept : IsKept c.loop-place.region.work c.extend.new.region.work (is_ok r) (is_work r) (K (get_or L i w)) = rw planes_after-is (subst (λ st. IsKept c.loop-place.region.work c.extend.new.region.work (is_ok r) (is_work r) (flat_map keeps (next_states st))) state c.extend.ensures.kept) in
    let ok = ap is_ok c.in_ok-extend.was in
    let all = leads_off same_words (leads_ok same_words (K (get_or L i w)) (flat_map K (drop (i + 1) L)) (items_split K L i w read.inside) c.loop-place.invariant.kept ok kept) in
    all.room_kept

pub returns-in_err-extend-clause-won : goal.returns-in_err-extend-clause-won
returns-in_err-extend-clause-won c =
    let raised = err_from_is_err_and c.from_residual.result c.from_residual.ensures.1 in
    let same : c.extend.result ≡ c.from_residual.result = c.in_err-extend.was ∙ (sym (ap Err raised.2) ∙ sym raised.1) in
    λ e. absurd (true≢false (sym e ∙ (sym (ap is_won same) ∙ c.extend.ensures.unwon)))
