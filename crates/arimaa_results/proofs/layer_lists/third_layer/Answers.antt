use Rattle.std.proofs.Common.{◌≡◌, ◌+◌, ◌<◌, ◌≤◌, ℕ, List, [], ◌∷◌, length, drop, get_or, ap, refl, sym, subst, ◌∙◌, arith, Result, Ok, true≢false}
use Rattle.std.specs.Prelude.{is_ok, IfOk}
use Rattle.std.proofs.lemmas.Result.{err_from_is_err_and}
use Rattle.arimaa_board.specs.declared.position.Position.{Position}
use Rattle.arimaa_board.specs.declared.position.Step.{Step}
use Rattle.arimaa_region.specs.Same.{same_position, same_words}
use Rattle.arimaa_region.specs.Segments.{Held as Region, top, below_top, live_of}
use Rattle.arimaa_step.specs.declared.state.TurnState.{TurnState}
use Rattle.arimaa_step.specs.StateWords.{state_in_planes}
use Rattle.arimaa_results.specs.declared.stop.Stop.{Stop}
use Rattle.arimaa_results.specs.Additions.{IsFilled}
use Rattle.arimaa_results.specs.Ahead.{brings}
use Rattle.arimaa_results.specs.LastSteps.{next_in_order, brings_first, brings_last, left_of_kept}
use Rattle.arimaa_results.specs.Layers.{keeps, layer, layers_to, brought_from, IsKept}
use Rattle.arimaa_results.specs.NextStates.{next_pairs}
use Rattle.arimaa_results.specs.Stops.{for_work, for_won, is_room, is_work, is_won}
use Rattle.arimaa_results.proofs.Adding.{Leads, leads_start, leads_ok, leads_err, leads_end, leads_off, under_live, added-like}
use Rattle.arimaa_results.proofs.Kept.{kept_first, last_split, last_end, first_live, reading_first}
use Rattle.arimaa_results.proofs.Layers.{IsRead, live-more, layers-count}
use Rattle.arimaa_results.proofs.OrderedLayers.{third_in_order, thirds_kept}
use Rattle.arimaa_results.proofs.Stage.{with_layer, stage-kept, stage-work, raised-room}
use Rattle.arimaa_results.proofs.layer_lists.third_layer.Goals as goal

pub work_layer-requires : goal.work_layer-requires
work_layer-requires c = rw c.requires.layers (omega (arith, layers-count c.args.p.now 2))

pub work_get-requires : goal.work_get-requires
work_get-requires c =
    let p = c.args.p.now in
    let some : 0 < length c.loop-place.region.work.segments = omega (arith, c.loop-place.invariant.kept.open_kept) in
    omega (arith, first_live p c.loop-place.region.work.segments some c.loop-place.invariant.kept.below_same, c.loop-place-test.true, c.requires.second)

pub from_planes-state-requires : goal.from_planes-state-requires
from_planes-state-requires c =
    let p = c.args.p.now in
    let w = c.work_get.result in
    let L = layer p 1 in
    let i = c.loop-place.place in
    let some : 0 < length c.loop-place.region.work.segments = omega (arith, c.loop-place.invariant.kept.open_kept) in
    let read : IsRead p 0 i w = reading_first p c.loop-place.region.work.segments some c.loop-place.invariant.kept.below_same c.at-corner.ensures.size i c.args.second c.requires.second c.loop-place-test.true w c.work_get.ensures in
    (read.of.0, read.few, read.of.2)

pub next_steps_from-requires-clause-end : goal.next_steps_from-requires-clause-end
next_steps_from-requires-clause-end c =
    c.work_len-end.ensures.count ∙ (ap (λ s. length (live_of s)) c.requires.layers ∙ sym (ap (λ s. length (live_of s)) c.loop-place.invariant.kept.below_same))

pub loop-place-init : goal.loop-place-init
loop-place-init c =
    let p = c.args.p.now in
    let kept : drop c.args.second (live_of (layers_to p 2)) ≡ layer p 2 = kept_first p c.args.second c.requires.second in
    let placed : TurnState → Step → List Position = next_in_order (brings c.args.barred.now 0) in
    let words : TurnState → Step → List (List ℕ) = next_in_order keeps in
    let old = c.args.region.now in
    let room = old.work.room in
    let X : List (List ℕ) → List Position = λ l. brings_last placed p l (layer p 1) in
    let W : List (List ℕ) → List (List ℕ) = λ l. brings_last words p l (layer p 1) in
    let from = drop c.args.second (live_of (layers_to p 2)) in
    let after : c.work_layer.new.self ≡ record old { work = with_layer room p 2 } = c.work_layer.ensures
    ∙ (λ i. record old { work = record { room = room; segments = [] ∷ c.requires.layers i } }) in
    record {
      filled = subst (λ (h : Region). Leads same_position old.room h.room old.segments h.segments (X from) (X (layer p 2))) (sym after) (leads_start same_position old.room old.segments (ap X kept));
      kept = subst (λ (h : Region). Leads same_words room h.work.room ([] ∷ layers_to p 2) h.work.segments (W from) (W (layer p 2))) (sym after) (leads_start same_words room ([] ∷ layers_to p 2) (ap W kept));
    }

pub loop-place-preserved : goal.loop-place-preserved
loop-place-preserved c =
    let p = c.args.p.now in
    let w = c.work_get.result in
    let L = layer p 1 in
    let i = c.loop-place.place in
    let some : 0 < length c.loop-place.region.work.segments = omega (arith, c.loop-place.invariant.kept.open_kept) in
    let read : IsRead p 0 i w = reading_first p c.loop-place.region.work.segments some c.loop-place.invariant.kept.below_same c.at-corner.ensures.size i c.args.second c.requires.second c.loop-place-test.true w c.work_get.ensures in
    let live = live_of (layers_to p 2) in
    let kept = drop c.loop-place.next live in
    let st : TurnState = c.from_planes-state.result in
    let r = c.next_steps_from.result in
    let placed : TurnState → Step → List Position = next_in_order (brings c.args.barred.now 0) in
    let words : TurnState → Step → List (List ℕ) = next_in_order keeps in
    let state : st ≡ state_in_planes p (get_or L i w) = c.from_planes-state.ensures read.of.0 read.few read.of.2 ∙ (sym read.state ∙ ap (state_in_planes p) (sym read.at)) in
    let under : live_of (below_top c.loop-place.region.work.segments) ≡ live = ap live_of c.loop-place.invariant.kept.below_same in
    let X : List Position = brings_first placed st kept (next_pairs st) in
    let W : List (List ℕ) = brings_first words st kept (next_pairs st) in
    let filled : IsFilled c.loop-place.region c.next_steps_from.new.region (is_ok r) (is_room r) X =
    subst (λ l. IsFilled c.loop-place.region c.next_steps_from.new.region (is_ok r) (is_room r) (brings_first placed st (drop c.loop-place.next l) (next_pairs st))) under c.next_steps_from.ensures.filled in
    let added : IsKept c.loop-place.region.work c.next_steps_from.new.region.work (is_ok r) (is_work r) W =
    subst (λ l. IsKept c.loop-place.region.work c.next_steps_from.new.region.work (is_ok r) (is_work r) (brings_first words st (drop c.loop-place.next l) (next_pairs st))) under c.next_steps_from.ensures.kept in
    let n = c.in_ok-next.next in
    let answer : Result ℕ Stop = Ok n in
    let given : IfOk answer (λ m. drop m live ≡ left_of_kept kept (next_pairs st)) =
    subst (λ (o : Result ℕ Stop). IfOk o (λ m. drop m live ≡ left_of_kept kept (next_pairs st))) c.in_ok-next.was
    (subst (λ l. IfOk r (λ m. drop m l ≡ left_of_kept (drop c.loop-place.next l) (next_pairs st))) under c.next_steps_from.ensures.next) in
    let ok = ap is_ok c.in_ok-next.was in
    record {
      filled = leads_ok same_position X (brings_last placed p (drop n live) (drop (i + 1) L)) (last_split placed p kept (drop n live) L i w st read.inside state given) c.loop-place.invariant.filled ok filled;
      kept = leads_ok same_words W (brings_last words p (drop n live) (drop (i + 1) L)) (last_split words p kept (drop n live) L i w st read.inside state given) c.loop-place.invariant.kept ok added;
    }

pub returns-in_err-next-clause-filled : goal.returns-in_err-next-clause-filled
returns-in_err-next-clause-filled c =
    let p = c.args.p.now in
    let w = c.work_get.result in
    let L = layer p 1 in
    let i = c.loop-place.place in
    let some : 0 < length c.loop-place.region.work.segments = omega (arith, c.loop-place.invariant.kept.open_kept) in
    let read : IsRead p 0 i w = reading_first p c.loop-place.region.work.segments some c.loop-place.invariant.kept.below_same c.at-corner.ensures.size i c.args.second c.requires.second c.loop-place-test.true w c.work_get.ensures in
    let live = live_of (layers_to p 2) in
    let kept = drop c.loop-place.next live in
    let st : TurnState = c.from_planes-state.result in
    let r = c.next_steps_from.result in
    let placed : TurnState → Step → List Position = next_in_order (brings c.args.barred.now 0) in
    let words : TurnState → Step → List (List ℕ) = next_in_order keeps in
    let state : st ≡ state_in_planes p (get_or L i w) = c.from_planes-state.ensures read.of.0 read.few read.of.2 ∙ (sym read.state ∙ ap (state_in_planes p) (sym read.at)) in
    let under : live_of (below_top c.loop-place.region.work.segments) ≡ live = ap live_of c.loop-place.invariant.kept.below_same in
    let X : List Position = brings_first placed st kept (next_pairs st) in
    let W : List (List ℕ) = brings_first words st kept (next_pairs st) in
    let filled : IsFilled c.loop-place.region c.next_steps_from.new.region (is_ok r) (is_room r) X =
    subst (λ l. IsFilled c.loop-place.region c.next_steps_from.new.region (is_ok r) (is_room r) (brings_first placed st (drop c.loop-place.next l) (next_pairs st))) under c.next_steps_from.ensures.filled in
    let raised = err_from_is_err_and c.from_residual.result c.from_residual.ensures.1 in
    let after = left_of_kept kept (next_pairs st) in
    raised-room same_position r c.from_residual.result _ raised.0 c.in_err-next.was raised.1 raised.2
    (added-like same_position (brings_last placed p (layer p 2) L) (brought_from c.args.barred.now p 2) (third_in_order c.args.barred.now p c.at-corner.ensures.size (top c.args.region.now.segments))
    (leads_err same_position X (brings_last placed p after (drop (i + 1) L)) (last_split placed p kept after L i w st read.inside state refl) c.loop-place.invariant.filled (ap is_ok c.in_err-next.was) filled))

pub returns-in_err-next-clause-room : goal.returns-in_err-next-clause-room
returns-in_err-next-clause-room c =
    let p = c.args.p.now in
    let w = c.work_get.result in
    let L = layer p 1 in
    let i = c.loop-place.place in
    let some : 0 < length c.loop-place.region.work.segments = omega (arith, c.loop-place.invariant.kept.open_kept) in
    let read : IsRead p 0 i w = reading_first p c.loop-place.region.work.segments some c.loop-place.invariant.kept.below_same c.at-corner.ensures.size i c.args.second c.requires.second c.loop-place-test.true w c.work_get.ensures in
    let live = live_of (layers_to p 2) in
    let kept = drop c.loop-place.next live in
    let st : TurnState = c.from_planes-state.result in
    let r = c.next_steps_from.result in
    let placed : TurnState → Step → List Position = next_in_order (brings c.args.barred.now 0) in
    let words : TurnState → Step → List (List ℕ) = next_in_order keeps in
    let state : st ≡ state_in_planes p (get_or L i w) = c.from_planes-state.ensures read.of.0 read.few read.of.2 ∙ (sym read.state ∙ ap (state_in_planes p) (sym read.at)) in
    let under : live_of (below_top c.loop-place.region.work.segments) ≡ live = ap live_of c.loop-place.invariant.kept.below_same in
    let X : List Position = brings_first placed st kept (next_pairs st) in
    let W : List (List ℕ) = brings_first words st kept (next_pairs st) in
    let added : IsKept c.loop-place.region.work c.next_steps_from.new.region.work (is_ok r) (is_work r) W =
    subst (λ l. IsKept c.loop-place.region.work c.next_steps_from.new.region.work (is_ok r) (is_work r) (brings_first words st (drop c.loop-place.next l) (next_pairs st))) under c.next_steps_from.ensures.kept in
    let after = left_of_kept kept (next_pairs st) in
    let all : IsKept (with_layer c.args.region.now.work.room p 2) c.next_steps_from.new.region.work (is_ok r) (is_work r) (brings_last words p (layer p 2) L) =
    leads_err same_words W (brings_last words p after (drop (i + 1) L)) (last_split words p kept after L i w st read.inside state refl) c.loop-place.invariant.kept (ap is_ok c.in_err-next.was) added in
    all.room_kept

pub returns-in_err-next-clause-work : goal.returns-in_err-next-clause-work
returns-in_err-next-clause-work c =
    let p = c.args.p.now in
    let w = c.work_get.result in
    let L = layer p 1 in
    let i = c.loop-place.place in
    let some : 0 < length c.loop-place.region.work.segments = omega (arith, c.loop-place.invariant.kept.open_kept) in
    let read : IsRead p 0 i w = reading_first p c.loop-place.region.work.segments some c.loop-place.invariant.kept.below_same c.at-corner.ensures.size i c.args.second c.requires.second c.loop-place-test.true w c.work_get.ensures in
    let live = live_of (layers_to p 2) in
    let kept = drop c.loop-place.next live in
    let st : TurnState = c.from_planes-state.result in
    let r = c.next_steps_from.result in
    let placed : TurnState → Step → List Position = next_in_order (brings c.args.barred.now 0) in
    let words : TurnState → Step → List (List ℕ) = next_in_order keeps in
    let state : st ≡ state_in_planes p (get_or L i w) = c.from_planes-state.ensures read.of.0 read.few read.of.2 ∙ (sym read.state ∙ ap (state_in_planes p) (sym read.at)) in
    let under : live_of (below_top c.loop-place.region.work.segments) ≡ live = ap live_of c.loop-place.invariant.kept.below_same in
    let X : List Position = brings_first placed st kept (next_pairs st) in
    let W : List (List ℕ) = brings_first words st kept (next_pairs st) in
    let added : IsKept c.loop-place.region.work c.next_steps_from.new.region.work (is_ok r) (is_work r) W =
    subst (λ l. IsKept c.loop-place.region.work c.next_steps_from.new.region.work (is_ok r) (is_work r) (brings_first words st (drop c.loop-place.next l) (next_pairs st))) under c.next_steps_from.ensures.kept in
    let after = left_of_kept kept (next_pairs st) in
    let all : IsKept (with_layer c.args.region.now.work.room p 2) c.next_steps_from.new.region.work (is_ok r) (is_work r) (brings_last words p (layer p 2) L) =
    leads_err same_words W (brings_last words p after (drop (i + 1) L)) (last_split words p kept after L i w st read.inside state refl) c.loop-place.invariant.kept (ap is_ok c.in_err-next.was) added in
    let raised = err_from_is_err_and c.from_residual.result c.from_residual.ensures.1 in
    let same : is_work r ≡ is_work c.from_residual.result = ap is_work c.in_err-next.was ∙ sym (ap is_work raised.1 ∙ ap for_work raised.2) in
    λ e. stage-work p c.args.region.now.work.room 2 (with_layer c.args.region.now.work.room p 2) c.next_steps_from.new.region.work refl (thirds_kept p c.at-corner.ensures.size) all (same ∙ e)

pub returns-clause-filled : goal.returns-clause-filled
returns-clause-filled c =
    let p = c.args.p.now in
    let placed : TurnState → Step → List Position = next_in_order (brings c.args.barred.now 0) in
    let past : length (layer p 1) ≤ c.loop-place.place = omega (arith, c.requires.second, live-more p 0) in
    added-like same_position (brings_last placed p (layer p 2) (layer p 1)) (brought_from c.args.barred.now p 2) (third_in_order c.args.barred.now p c.at-corner.ensures.size (top c.args.region.now.segments))
    (leads_end same_position (last_end placed p _ (layer p 1) c.loop-place.place past) c.loop-place.invariant.filled)

pub returns-clause-room : goal.returns-clause-room
returns-clause-room c =
    let p = c.args.p.now in
    let words : TurnState → Step → List (List ℕ) = next_in_order keeps in
    let past : length (layer p 1) ≤ c.loop-place.place = omega (arith, c.requires.second, live-more p 0) in
    let all = leads_end same_words (last_end words p _ (layer p 1) c.loop-place.place past) c.loop-place.invariant.kept in
    all.room_kept

pub returns-clause-kept : goal.returns-clause-kept
returns-clause-kept c =
    let p = c.args.p.now in
    let words : TurnState → Step → List (List ℕ) = next_in_order keeps in
    let past : length (layer p 1) ≤ c.loop-place.place = omega (arith, c.requires.second, live-more p 0) in
    let all = leads_end same_words (last_end words p _ (layer p 1) c.loop-place.place past) c.loop-place.invariant.kept in
    stage-kept p c.args.region.now.work.room 2 (with_layer c.args.region.now.work.room p 2) c.loop-place.region.work refl (thirds_kept p c.at-corner.ensures.size) all refl

pub ends_list-requires : goal.ends_list-requires
ends_list-requires c = under_live c.next_steps_from.new.region.segments c.loop-place.region.segments c.live-from.result c.next_steps_from.ensures.filled.below_kept c.live-from.ensures.count

pub returns-then-ends_list-clause-filled : goal.returns-then-ends_list-clause-filled
returns-then-ends_list-clause-filled c =
    let p = c.args.p.now in
    let w = c.work_get.result in
    let L = layer p 1 in
    let i = c.loop-place.place in
    let some : 0 < length c.loop-place.region.work.segments = omega (arith, c.loop-place.invariant.kept.open_kept) in
    let read : IsRead p 0 i w = reading_first p c.loop-place.region.work.segments some c.loop-place.invariant.kept.below_same c.at-corner.ensures.size i c.args.second c.requires.second c.loop-place-test.true w c.work_get.ensures in
    let live = live_of (layers_to p 2) in
    let kept = drop c.loop-place.next live in
    let st : TurnState = c.from_planes-state.result in
    let r = c.next_steps_from.result in
    let placed : TurnState → Step → List Position = next_in_order (brings c.args.barred.now 0) in
    let words : TurnState → Step → List (List ℕ) = next_in_order keeps in
    let state : st ≡ state_in_planes p (get_or L i w) = c.from_planes-state.ensures read.of.0 read.few read.of.2 ∙ (sym read.state ∙ ap (state_in_planes p) (sym read.at)) in
    let under : live_of (below_top c.loop-place.region.work.segments) ≡ live = ap live_of c.loop-place.invariant.kept.below_same in
    let X : List Position = brings_first placed st kept (next_pairs st) in
    let W : List (List ℕ) = brings_first words st kept (next_pairs st) in
    let filled : IsFilled c.loop-place.region c.next_steps_from.new.region (is_ok r) (is_room r) X =
    subst (λ l. IsFilled c.loop-place.region c.next_steps_from.new.region (is_ok r) (is_room r) (brings_first placed st (drop c.loop-place.next l) (next_pairs st))) under c.next_steps_from.ensures.filled in
    let added : IsKept c.loop-place.region.work c.next_steps_from.new.region.work (is_ok r) (is_work r) W =
    subst (λ l. IsKept c.loop-place.region.work c.next_steps_from.new.region.work (is_ok r) (is_work r) (brings_first words st (drop c.loop-place.next l) (next_pairs st))) under c.next_steps_from.ensures.kept in
    let n = c.in_ok-next.next in
    let answer : Result ℕ Stop = Ok n in
    let given : IfOk answer (λ m. drop m live ≡ left_of_kept kept (next_pairs st)) =
    subst (λ (o : Result ℕ Stop). IfOk o (λ m. drop m live ≡ left_of_kept kept (next_pairs st))) c.in_ok-next.was
    (subst (λ l. IfOk r (λ m. drop m l ≡ left_of_kept (drop c.loop-place.next l) (next_pairs st))) under c.next_steps_from.ensures.next) in
    let ok = ap is_ok c.in_ok-next.was in
    added-like same_position (brings_last placed p (layer p 2) L) (brought_from c.args.barred.now p 2) (third_in_order c.args.barred.now p c.at-corner.ensures.size (top c.args.region.now.segments))
    (leads_off same_position (leads_ok same_position X (brings_last placed p (drop n live) (drop (i + 1) L)) (last_split placed p kept (drop n live) L i w st read.inside state given) c.loop-place.invariant.filled ok filled))

pub returns-then-ends_list-clause-room : goal.returns-then-ends_list-clause-room
returns-then-ends_list-clause-room c =
    let p = c.args.p.now in
    let w = c.work_get.result in
    let L = layer p 1 in
    let i = c.loop-place.place in
    let some : 0 < length c.loop-place.region.work.segments = omega (arith, c.loop-place.invariant.kept.open_kept) in
    let read : IsRead p 0 i w = reading_first p c.loop-place.region.work.segments some c.loop-place.invariant.kept.below_same c.at-corner.ensures.size i c.args.second c.requires.second c.loop-place-test.true w c.work_get.ensures in
    let live = live_of (layers_to p 2) in
    let kept = drop c.loop-place.next live in
    let st : TurnState = c.from_planes-state.result in
    let r = c.next_steps_from.result in
    let placed : TurnState → Step → List Position = next_in_order (brings c.args.barred.now 0) in
    let words : TurnState → Step → List (List ℕ) = next_in_order keeps in
    let state : st ≡ state_in_planes p (get_or L i w) = c.from_planes-state.ensures read.of.0 read.few read.of.2 ∙ (sym read.state ∙ ap (state_in_planes p) (sym read.at)) in
    let under : live_of (below_top c.loop-place.region.work.segments) ≡ live = ap live_of c.loop-place.invariant.kept.below_same in
    let X : List Position = brings_first placed st kept (next_pairs st) in
    let W : List (List ℕ) = brings_first words st kept (next_pairs st) in
    let filled : IsFilled c.loop-place.region c.next_steps_from.new.region (is_ok r) (is_room r) X =
    subst (λ l. IsFilled c.loop-place.region c.next_steps_from.new.region (is_ok r) (is_room r) (brings_first placed st (drop c.loop-place.next l) (next_pairs st))) under c.next_steps_from.ensures.filled in
    let added : IsKept c.loop-place.region.work c.next_steps_from.new.region.work (is_ok r) (is_work r) W =
    subst (λ l. IsKept c.loop-place.region.work c.next_steps_from.new.region.work (is_ok r) (is_work r) (brings_first words st (drop c.loop-place.next l) (next_pairs st))) under c.next_steps_from.ensures.kept in
    let n = c.in_ok-next.next in
    let answer : Result ℕ Stop = Ok n in
    let given : IfOk answer (λ m. drop m live ≡ left_of_kept kept (next_pairs st)) =
    subst (λ (o : Result ℕ Stop). IfOk o (λ m. drop m live ≡ left_of_kept kept (next_pairs st))) c.in_ok-next.was
    (subst (λ l. IfOk r (λ m. drop m l ≡ left_of_kept (drop c.loop-place.next l) (next_pairs st))) under c.next_steps_from.ensures.next) in
    let ok = ap is_ok c.in_ok-next.was in
    let all = leads_off same_words (leads_ok same_words W (brings_last words p (drop n live) (drop (i + 1) L)) (last_split words p kept (drop n live) L i w st read.inside state given) c.loop-place.invariant.kept ok added) in
    all.room_kept

pub returns-in_err-next-clause-won : goal.returns-in_err-next-clause-won
returns-in_err-next-clause-won c =
    let raised = err_from_is_err_and c.from_residual.result c.from_residual.ensures.1 in
    let same : is_won c.next_steps_from.result ≡ is_won c.from_residual.result = ap is_won c.in_err-next.was ∙ sym (ap is_won raised.1 ∙ ap for_won raised.2) in
    λ e. absurd (true≢false (sym e ∙ (sym same ∙ c.next_steps_from.ensures.unwon)))
