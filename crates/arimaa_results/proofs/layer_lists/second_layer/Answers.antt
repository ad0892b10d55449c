use Rattle.std.proofs.Common.{◌≡◌, ℕ, List, [], ◌∷◌, length, drop, Bool, false, refl, sym, ◌∙◌, ap, subst, arith}
use Rattle.std.specs.Prelude.{is_ok}
use Rattle.std.proofs.lemmas.Result.{err_from_is_err_and}
use Rattle.arimaa_board.specs.Board.{settle}
use Rattle.arimaa_board.specs.declared.position.Position.{Position}
use Rattle.arimaa_region.specs.Same.{same_position}
use Rattle.arimaa_region.specs.Segments.{Held as Region, top, live_of, below_top}
use Rattle.arimaa_step.specs.declared.state.TurnState.{TurnState}
use Rattle.arimaa_step.specs.State.{state_of}
use Rattle.arimaa_results.specs.Additions.{IsFilled}
use Rattle.arimaa_results.specs.Ahead.{brings}
use Rattle.arimaa_results.specs.Layers.{keeps, layer, layers_to, brought_from, IsKept}
use Rattle.arimaa_results.specs.LastSteps.{next_in_order, brings_first}
use Rattle.arimaa_results.specs.NextStates.{next_pairs}
use Rattle.arimaa_results.specs.Stops.{for_work, is_room, is_work}
use Rattle.arimaa_results.proofs.Adding.{added-like, added-weaker}
use Rattle.arimaa_results.proofs.Kept.{start_kept}
use Rattle.arimaa_results.proofs.Layers.{layers_to-zero, layers-count}
use Rattle.arimaa_results.proofs.OrderedLayers.{second_in_order, seconds_kept}
use Rattle.arimaa_results.proofs.Stage.{with_layer, stage-kept, stage-work, raised-room}
use Rattle.arimaa_results.proofs.layer_lists.second_layer.Goals as goal

pub next_layer-requires-clause-first : goal.next_layer-requires-clause-first
next_layer-requires-clause-first c = sym (ap (λ s. length (live_of s)) (layers_to-zero c.args.p.now))

pub work_layer-requires : goal.work_layer-requires
work_layer-requires c = rw c.requires.layers (omega (arith, layers-count c.args.p.now 1))

-- the region with a new layer
opened_is : (old opened : Region) (p : Position) → opened ≡ record old { work = record old.work { segments = [] ∷ old.work.segments } } → old.work.segments ≡ layers_to p 1 → opened ≡ record old { work = with_layer old.work.room p 1 }
opened_is old opened p is layers = is ∙ (λ i. record old { work = record { room = old.work.room; segments = [] ∷ layers i } })

-- what the second steps in order place and keep, where no trap of the start board is due
module _ (p : Position) (old opened new : Region) (start : TurnState) (is_start : start ≡ state_of p []) (is_opened : opened ≡ record old { work = with_layer old.work.room p 1 }) where
  abbrev Firsts : List (List ℕ)
  Firsts = drop 0 (live_of (below_top opened.work.segments))

  firsts_are : Firsts ≡ layer p 1
  firsts_are = ap (λ (h : Region). drop 0 (live_of (below_top h.work.segments))) is_opened ∙ start_kept p

  module _ {all over : Bool} where
    filled : (barred : List Position) → length p.board ≡ 64 → settle p.board ≡ p.board → IsFilled opened new all over (brings_first (next_in_order (brings barred 0)) start Firsts (next_pairs start)) → IsFilled old new all over (brought_from barred p 1)
    filled barred long calm a =
        let X : TurnState → List (List ℕ) → List Position = λ st l. brings_first (next_in_order (brings barred 0)) st l (next_pairs st) in
        added-like same_position (X (state_of p []) (layer p 1)) (brought_from barred p 1) (second_in_order barred p long calm (top old.segments))
        (subst (λ (h : Region). IsFilled h new all over (X (state_of p []) (layer p 1))) is_opened
        (subst (λ l. IsFilled opened new all over (X (state_of p []) l)) firsts_are
        (subst (λ st. IsFilled opened new all over (X st Firsts)) is_start a)))

    kept : IsKept opened.work new.work all over (brings_first (next_in_order keeps) start Firsts (next_pairs start)) → IsKept opened.work new.work all over (brings_first (next_in_order keeps) (state_of p []) (layer p 1) (next_pairs (state_of p [])))
    kept a =
        let X : TurnState → List (List ℕ) → List (List ℕ) = λ st l. brings_first (next_in_order keeps) st l (next_pairs st) in
        subst (λ l. IsKept opened.work new.work all over (X (state_of p []) l)) firsts_are
        (subst (λ st. IsKept opened.work new.work all over (X st Firsts)) is_start a)

pub returns-in_err-next_steps_from-clause-filled : goal.returns-in_err-next_steps_from-clause-filled
returns-in_err-next_steps_from-clause-filled c =
    let p = c.args.p.now in
    let old = c.args.region.now in
    let calm : settle p.board ≡ p.board = c.if-not-are_in_order.ensures refl in
    let opened = opened_is old c.work_layer.new.self p c.work_layer.ensures c.requires.layers in
    let raised = err_from_is_err_and c.from_residual.result c.from_residual.ensures.1 in
    raised-room same_position c.next_steps_from.result c.from_residual.result _ raised.0 c.in_err-next_steps_from.was raised.1 raised.2
    (filled p old c.work_layer.new.self c.next_steps_from.new.region c.start-start.result c.start-start.ensures opened c.args.barred.now c.at-corner.ensures.size calm c.next_steps_from.ensures.filled)

pub returns-in_err-next_steps_from-clause-work : goal.returns-in_err-next_steps_from-clause-work
returns-in_err-next_steps_from-clause-work c =
    let p = c.args.p.now in
    let old = c.args.region.now in
    let calm : settle p.board ≡ p.board = c.if-not-are_in_order.ensures refl in
    let opened = opened_is old c.work_layer.new.self p c.work_layer.ensures c.requires.layers in
    let raised = err_from_is_err_and c.from_residual.result c.from_residual.ensures.1 in
    let same : is_work c.next_steps_from.result ≡ is_work c.from_residual.result = ap is_work c.in_err-next_steps_from.was ∙ sym (ap is_work raised.1 ∙ ap for_work raised.2) in
    λ e. stage-work p old.work.room 1 c.work_layer.new.self.work c.next_steps_from.new.region.work (ap (λ (h : Region). h.work) opened) (seconds_kept p c.at-corner.ensures.size calm)
    (kept p old c.work_layer.new.self c.next_steps_from.new.region c.start-start.result c.start-start.ensures opened c.next_steps_from.ensures.kept) (same ∙ e)

pub returns-then-ends_list-clause-filled : goal.returns-then-ends_list-clause-filled
returns-then-ends_list-clause-filled c =
    let p = c.args.p.now in
    let old = c.args.region.now in
    let calm : settle p.board ≡ p.board = c.if-not-are_in_order.ensures refl in
    let opened = opened_is old c.work_layer.new.self p c.work_layer.ensures c.requires.layers in
    let all : IsFilled old c.next_steps_from.new.region (is_ok c.next_steps_from.result) (is_room c.next_steps_from.result) (brought_from c.args.barred.now p 1) =
    filled p old c.work_layer.new.self c.next_steps_from.new.region c.start-start.result c.start-start.ensures opened c.args.barred.now c.at-corner.ensures.size calm c.next_steps_from.ensures.filled in
    added-weaker same_position false false refl (subst (λ o. IsFilled old c.next_steps_from.new.region (is_ok o) (is_room o) (brought_from c.args.barred.now p 1)) c.in_ok-next_steps_from.was all)

pub returns-clause-filled : goal.returns-clause-filled
returns-clause-filled c =
    let p = c.args.p.now in
    let old = c.args.region.now in
    let calm : settle p.board ≡ p.board = c.if-not-are_in_order.ensures refl in
    let opened = opened_is old c.work_layer.new.self p c.work_layer.ensures c.requires.layers in
    subst (λ o. IsFilled old c.next_steps_from.new.region (is_ok o) (is_room o) (brought_from c.args.barred.now p 1)) c.in_ok-next_steps_from.was
    (filled p old c.work_layer.new.self c.next_steps_from.new.region c.start-start.result c.start-start.ensures opened c.args.barred.now c.at-corner.ensures.size calm c.next_steps_from.ensures.filled)

pub returns-clause-kept : goal.returns-clause-kept
returns-clause-kept c =
    let p = c.args.p.now in
    let old = c.args.region.now in
    let calm : settle p.board ≡ p.board = c.if-not-are_in_order.ensures refl in
    let opened = opened_is old c.work_layer.new.self p c.work_layer.ensures c.requires.layers in
    stage-kept p old.work.room 1 c.work_layer.new.self.work c.next_steps_from.new.region.work (ap (λ (h : Region). h.work) opened) (seconds_kept p c.at-corner.ensures.size calm)
    (kept p old c.work_layer.new.self c.next_steps_from.new.region c.start-start.result c.start-start.ensures opened c.next_steps_from.ensures.kept) (ap is_ok c.in_ok-next_steps_from.was)
