use Rattle.std.proofs.Common.{ℕ, List, ◌≡◌, [], ◌∷◌, true, false, cond, subst, sym, ◌∙◌, ap}
use Rattle.std.proofs.lemmas.Bool.{false_from_ne_true}
use Rattle.arimaa_region.specs.Placement.{is_full}
use Rattle.arimaa_region.specs.Placing.{with_words}
use Rattle.arimaa_region.specs.Same.{same_words, same_words-Decides, stands_in}
use Rattle.arimaa_region.specs.Segments.{Held, Stacked, top}
use Rattle.arimaa_region.proofs.Lemmas.Standing.{stands_in-Decides}
use Rattle.arimaa_results.specs.Layers.{IsKept}
use Rattle.arimaa_results.proofs.Adding.{added-full}
use Rattle.arimaa_results.proofs.layer_lists.keep.Goals as goal

pub returns-in-Full-clause-kept : goal.returns-in-Full-clause-kept
returns-in-Full-clause-kept c =
    let old = c.args.region.now.work in
    let w = c.planes.result in
    let is : is_full c.work_place.result ≡ true = ap is_full c.in-Full.is in
    let full = c.work_place.ensures.full.0 is in
    let same : c.work_place.new.self.work ≡ old = ap (λ (h : Held). h.work) c.work_place.ensures.after ∙ ap (λ v. cond v old (with_words old w)) is in
    let absent : stands_in same_words (top old.segments) w ≡ false = false_from_ne_true _ (λ e. full.0 ((stands_in-Decides same_words same_words-Decides (top old.segments) w).0 e)) in
    rw (← c.planes.ensures) (subst (λ (h : Stacked (List ℕ)). IsKept old h false true (w ∷ [])) (sym same) (added-full same_words old.room old.segments w c.requires full.1 absent))
