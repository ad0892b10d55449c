use Rattle.std.proofs.Common.{◌≡◌, List, [], ◌∷◌, ap, sym, subst, ◌∙◌}
use Rattle.std.specs.Prelude.{is_ok}
use Rattle.std.specs.List.{flat_map}
use Rattle.arimaa_board.specs.declared.position.Position.{Position}
use Rattle.arimaa_region.specs.Same.{same_words, firsts}
use Rattle.arimaa_region.specs.Segments.{Held as Region}
use Rattle.arimaa_results.specs.Additions.{IsFilled}
use Rattle.arimaa_results.specs.Ahead.{next_states, brings}
use Rattle.arimaa_results.specs.Layers.{keeps, layer, brought_from}
use Rattle.arimaa_results.specs.Stops.{is_room}
use Rattle.arimaa_results.proofs.Layers.{layers_to-zero, layer-one, starts-bring}
use Rattle.arimaa_results.proofs.Stage.{on_ok, with_layer, stage-room, stage-kept, stage-work}
use Rattle.arimaa_results.proofs.layer_lists.first_layer.Goals as goal

pub returns : goal.returns
returns c =
    let p = c.args.p.now in
    let barred = c.args.barred.now in
    let long = c.at-corner.ensures.size in
    let r = c.extend.result in
    let room = c.args.region.now.work.room in
    let old = c.args.region.now in
    let after : c.work_layer.new.self ≡ record old { work = with_layer room p 0 } = c.work_layer.ensures
    ∙ (ap (λ (h : Region). record h { work = record h.work { segments = [] ∷ h.work.segments } }) c.work_clear.ensures
    ∙ (λ i. record old { work = record { room = room; segments = [] ∷ sym (layers_to-zero p) i } })) in
    let opened : c.work_layer.new.self.work ≡ with_layer room p 0 = ap (λ (h : Region). h.work) after in
    let first : firsts same_words [] (flat_map keeps (next_states c.start.result)) ≡ layer p 1 = ap (λ st. firsts same_words [] (flat_map keeps (next_states st))) c.start.ensures ∙ layer-one p long in
    let brought : brings barred 1 c.start.result ≡ brought_from barred p 0 = ap (brings barred 1) c.start.ensures ∙ sym (starts-bring p long barred 1) in
    record {
      filled = subst (λ (h : Region). IsFilled h c.extend.new.region (is_ok r) (is_room r) (brought_from barred p 0)) after (subst (λ (xs : List Position). IsFilled c.work_layer.new.self c.extend.new.region (is_ok r) (is_room r) xs) brought c.extend.ensures.filled);
      room = stage-room p room 0 c.work_layer.new.self.work c.extend.new.region.work opened first c.extend.ensures.kept;
      kept = on_ok r (stage-kept p room 0 c.work_layer.new.self.work c.extend.new.region.work opened first c.extend.ensures.kept);
      work = stage-work p room 0 c.work_layer.new.self.work c.extend.new.region.work opened first c.extend.ensures.kept;
      unwon = c.extend.ensures.unwon;
    }
