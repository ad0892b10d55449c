use Rattle.std.proofs.Common.{append-nil, true≢false, ◌≡◌, ℕ, List, [], ◌++◌, Err, refl, sym, ◌∙◌, ap, subst, arith}
use Rattle.std.specs.Prelude.{is_ok}
use Rattle.std.proofs.lemmas.Result.{err_from_is_err_and}
use Rattle.arimaa_board.specs.declared.position.Position.{Position}
use Rattle.arimaa_region.specs.Same.{same_position}
use Rattle.arimaa_region.specs.Segments.{Stacked}
use Rattle.arimaa_results.specs.Additions.{IsFilled}
use Rattle.arimaa_results.specs.Layers.{brought_from}
use Rattle.arimaa_results.specs.Stops.{is_room, is_work, is_won}
use Rattle.arimaa_results.proofs.Adding.{leads_start, leads_ok, leads_err, leads_off, under_live}
use Rattle.arimaa_results.proofs.Layers.{live-more}
use Rattle.arimaa_results.proofs.Stage.{on_ok}
use Rattle.arimaa_results.proofs.layer_lists.fill_layers.Goals as goal

pub returns-in_err-first_layer-clause-filled : goal.returns-in_err-first_layer-clause-filled
returns-in_err-first_layer-clause-filled c =
    let p = c.args.p.now in
    let a = c.args.region.now in
    let X : ℕ → List Position = brought_from c.args.barred.now p in
    let whole : List Position = X 0 ++ (X 1 ++ (X 2 ++ (X 3 ++ []))) in
    let lead0 = leads_start same_position a.room a.segments {left = whole} refl in
    let raised = err_from_is_err_and c.from_residual.result c.from_residual.ensures.1 in
    let same : c.first_layer.result ≡ c.from_residual.result = c.in_err-first_layer.was ∙ (sym (ap Err raised.2) ∙ sym raised.1) in
    subst (λ o. IsFilled a c.first_layer.new.region (is_ok o) (is_room o) whole) same
    (leads_err same_position (X 0) (X 1 ++ (X 2 ++ (X 3 ++ []))) refl lead0 (ap is_ok c.in_err-first_layer.was) c.first_layer.ensures.filled)

pub returns-in_err-first_layer-clause-work : goal.returns-in_err-first_layer-clause-work
returns-in_err-first_layer-clause-work c =
    let p = c.args.p.now in
    let raised = err_from_is_err_and c.from_residual.result c.from_residual.ensures.1 in
    let same : c.first_layer.result ≡ c.from_residual.result = c.in_err-first_layer.was ∙ (sym (ap Err raised.2) ∙ sym raised.1) in
    λ e. let many = c.first_layer.ensures.work (ap is_work same ∙ e) in omega (arith, many, live-more p 1, live-more p 2)

pub returns-in_err-second_layer-clause-filled : goal.returns-in_err-second_layer-clause-filled
returns-in_err-second_layer-clause-filled c =
    let p = c.args.p.now in
    let a = c.args.region.now in
    let X : ℕ → List Position = brought_from c.args.barred.now p in
    let whole : List Position = X 0 ++ (X 1 ++ (X 2 ++ (X 3 ++ []))) in
    let lead0 = leads_start same_position a.room a.segments {left = whole} refl in
    let lead1 = leads_ok same_position (X 0) (X 1 ++ (X 2 ++ (X 3 ++ []))) refl lead0 (ap is_ok c.in_ok-first_layer.was) c.first_layer.ensures.filled in
    let raised = err_from_is_err_and c.from_residual-in_err-second_layer.result c.from_residual-in_err-second_layer.ensures.1 in
    let same : c.second_layer.result ≡ c.from_residual-in_err-second_layer.result = c.in_err-second_layer.was ∙ (sym (ap Err raised.2) ∙ sym raised.1) in
    subst (λ o. IsFilled a c.second_layer.new.region (is_ok o) (is_room o) whole) same
    (leads_err same_position (X 1) (X 2 ++ (X 3 ++ [])) refl lead1 (ap is_ok c.in_err-second_layer.was) c.second_layer.ensures.filled)

pub returns-in_err-second_layer-clause-work : goal.returns-in_err-second_layer-clause-work
returns-in_err-second_layer-clause-work c =
    let p = c.args.p.now in
    let raised = err_from_is_err_and c.from_residual-in_err-second_layer.result c.from_residual-in_err-second_layer.ensures.1 in
    let same : c.second_layer.result ≡ c.from_residual-in_err-second_layer.result = c.in_err-second_layer.was ∙ (sym (ap Err raised.2) ∙ sym raised.1) in
    λ e. let many = c.second_layer.ensures.work (ap is_work same ∙ e) in omega (arith, many, c.first_layer.ensures.room, live-more p 2)

pub returns-in_err-third_layer-clause-filled : goal.returns-in_err-third_layer-clause-filled
returns-in_err-third_layer-clause-filled c =
    let p = c.args.p.now in
    let a = c.args.region.now in
    let X : ℕ → List Position = brought_from c.args.barred.now p in
    let whole : List Position = X 0 ++ (X 1 ++ (X 2 ++ (X 3 ++ []))) in
    let lead0 = leads_start same_position a.room a.segments {left = whole} refl in
    let lead1 = leads_ok same_position (X 0) (X 1 ++ (X 2 ++ (X 3 ++ []))) refl lead0 (ap is_ok c.in_ok-first_layer.was) c.first_layer.ensures.filled in
    let lead2 = leads_ok same_position (X 1) (X 2 ++ (X 3 ++ [])) refl lead1 (ap is_ok c.in_ok-second_layer.was) c.second_layer.ensures.filled in
    let raised = err_from_is_err_and c.from_residual-in_err-third_layer.result c.from_residual-in_err-third_layer.ensures.1 in
    let same : c.third_layer.result ≡ c.from_residual-in_err-third_layer.result = c.in_err-third_layer.was ∙ (sym (ap Err raised.2) ∙ sym raised.1) in
    subst (λ o. IsFilled a c.third_layer.new.region (is_ok o) (is_room o) whole) same
    (leads_err same_position (X 2) (X 3 ++ []) refl lead2 (ap is_ok c.in_err-third_layer.was) c.third_layer.ensures.filled)

pub returns-clause-filled : goal.returns-clause-filled
returns-clause-filled c =
    let p = c.args.p.now in
    let a = c.args.region.now in
    let X : ℕ → List Position = brought_from c.args.barred.now p in
    let whole : List Position = X 0 ++ (X 1 ++ (X 2 ++ (X 3 ++ []))) in
    let lead0 = leads_start same_position a.room a.segments {left = whole} refl in
    let lead1 = leads_ok same_position (X 0) (X 1 ++ (X 2 ++ (X 3 ++ []))) refl lead0 (ap is_ok c.in_ok-first_layer.was) c.first_layer.ensures.filled in
    let lead2 = leads_ok same_position (X 1) (X 2 ++ (X 3 ++ [])) refl lead1 (ap is_ok c.in_ok-second_layer.was) c.second_layer.ensures.filled in
    let lead3 = leads_ok same_position (X 2) (X 3 ++ []) refl lead2 (ap is_ok c.in_ok-third_layer.was) c.third_layer.ensures.filled in
    let r = c.last_steps.result in
    let last : IsFilled c.third_layer.new.region c.last_steps.new.region (is_ok r) (is_room r) (X 3 ++ []) =
    subst (λ xs. IsFilled c.third_layer.new.region c.last_steps.new.region (is_ok r) (is_room r) xs) (sym (append-nil (X 3))) c.last_steps.ensures.filled in
    lead3.rest c.last_steps.new.region.room c.last_steps.new.region.segments (is_ok r) (is_room r) last

pub returns-clause-kept : goal.returns-clause-kept
returns-clause-kept c =
    on_ok c.last_steps.result (λ _. ap (λ (w : Stacked (List ℕ)). w.segments) c.last_steps.ensures.work ∙ c.in_ok-third_layer.ensures.kept)

pub returns-clause-work : goal.returns-clause-work
returns-clause-work c = λ e. absurd (true≢false (sym e ∙ c.last_steps.ensures.layers))

pub ends_list-requires : goal.ends_list-requires
ends_list-requires c = under_live c.first_layer.new.region.segments c.args.region.now.segments c.live-from.result c.first_layer.ensures.filled.below_kept c.live-from.ensures.count

pub returns-then-ends_list-clause-filled : goal.returns-then-ends_list-clause-filled
returns-then-ends_list-clause-filled c =
    let a = c.args.region.now in
    let X : ℕ → List Position = brought_from c.args.barred.now c.args.p.now in
    let whole : List Position = X 0 ++ (X 1 ++ (X 2 ++ (X 3 ++ []))) in
    let lead0 = leads_start same_position a.room a.segments {left = whole} refl in
    leads_off same_position (leads_ok same_position (X 0) (X 1 ++ (X 2 ++ (X 3 ++ []))) refl lead0 (ap is_ok c.in_ok-first_layer.was) c.first_layer.ensures.filled)

pub returns-in_err-first_layer-clause-won : goal.returns-in_err-first_layer-clause-won
returns-in_err-first_layer-clause-won c =
    let raised = err_from_is_err_and c.from_residual.result c.from_residual.ensures.1 in
    let same : c.first_layer.result ≡ c.from_residual.result = c.in_err-first_layer.was ∙ (sym (ap Err raised.2) ∙ sym raised.1) in
    λ e. absurd (true≢false (sym e ∙ (sym (ap is_won same) ∙ c.first_layer.ensures.unwon)))

pub returns-in_err-second_layer-clause-won : goal.returns-in_err-second_layer-clause-won
returns-in_err-second_layer-clause-won c =
    let raised = err_from_is_err_and c.from_residual-in_err-second_layer.result c.from_residual-in_err-second_layer.ensures.1 in
    let same : c.second_layer.result ≡ c.from_residual-in_err-second_layer.result = c.in_err-second_layer.was ∙ (sym (ap Err raised.2) ∙ sym raised.1) in
    λ e. c.second_layer.ensures.won (ap is_won same ∙ e)

pub returns-in_err-third_layer-clause-won : goal.returns-in_err-third_layer-clause-won
returns-in_err-third_layer-clause-won c =
    let raised = err_from_is_err_and c.from_residual-in_err-third_layer.result c.from_residual-in_err-third_layer.ensures.1 in
    let same : c.third_layer.result ≡ c.from_residual-in_err-third_layer.result = c.in_err-third_layer.was ∙ (sym (ap Err raised.2) ∙ sym raised.1) in
    λ e. c.third_layer.ensures.won (ap is_won same ∙ e)
