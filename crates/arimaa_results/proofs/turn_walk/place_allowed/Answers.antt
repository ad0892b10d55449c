use Rattle.std.proofs.Common.{◌≡◌, [], ◌∷◌, true, false, cond, subst, sym, ◌∙◌, ap}
use Rattle.std.specs.Prelude.{not}
use Rattle.std.proofs.lemmas.Bool.{false_from_ne_true}
use Rattle.arimaa_board.specs.declared.position.Position.{Position}
use Rattle.arimaa_region.specs.Placement.{is_full}
use Rattle.arimaa_region.specs.Placing.{with_placed}
use Rattle.arimaa_region.specs.Same.{same_position, same_position-Decides, stands_in}
use Rattle.arimaa_region.specs.Segments.{Held, top}
use Rattle.arimaa_region.proofs.Lemmas.Standing.{stands_in-Decides}
use Rattle.arimaa_results.specs.Additions.{IsFilled}
use Rattle.arimaa_results.specs.Ahead.{is_unbarred}
use Rattle.arimaa_results.proofs.Adding.{added-full}
use Rattle.arimaa_results.proofs.turn_walk.place_allowed.Goals as goal

pub returns-in-Full-clause-filled : goal.returns-in-Full-clause-filled
returns-in-Full-clause-filled c =
    let old = c.args.region.now in
    let q : Position = record { board = c.args.board; side = c.args.side } in
    let is : is_full c.place.result ≡ true = ap is_full c.in-Full.is in
    let full = c.place.ensures.full.0 is in
    let same : c.place.new.self ≡ old = c.place.ensures.after ∙ ap (λ v. cond v old (with_placed old q)) is in
    let free : is_unbarred c.args.barred.now q ≡ true = ap not (sym c.is_barred.ensures ∙ c.if-is_barred.false) in
    let absent : stands_in same_position (top old.segments) q ≡ false = false_from_ne_true _ (λ e. full.0 ((stands_in-Decides same_position same_position-Decides (top old.segments) q).0 e)) in
    subst (λ (h : Held). IsFilled old h false true (cond (is_unbarred c.args.barred.now q) (q ∷ []) [])) (sym same)
    (rw free (added-full same_position old.room old.segments q c.requires full.1 absent))
