use Rattle.std.proofs.Common.{◌≡◌, ◌+◌, ◌<◌, [], ◌∷◌, length, ap, ◌∙◌, arith, add-one}
use Rattle.std.proofs.Math.ListN.{set}
use Rattle.arimaa_region.specs.Layout.{segments_between}
use Rattle.arimaa_region.specs.Segments.{Stacked}
use Rattle.arimaa_region.proofs.Cutting.{cut-mark}
use Rattle.arimaa_region.proofs.Sound.{IsSound-mark, open_count, taken_fit}
use Rattle.arimaa_region.proofs.stack.Stack.open.Goals as goal

pub invariant_of-self : goal.invariant_of-self
invariant_of-self g c =
    let r = c.self.inside in
    let opened = open_count r.room r.open_segments r.places.items (length r.index.buckets) r.starts _ c.self.view_is in
    let few : r.open_segments < 64 = omega (arith, c.requires) in
    (rw (c.len.ensures.count, add-one) (IsSound-mark few c.self.invariant.0), c.self.invariant.1)

pub returns-clause-number : goal.returns-clause-number
returns-clause-number g c =
    let r = c.self.inside in
    open_count r.room r.open_segments r.places.items (length r.index.buckets) r.starts _ c.self.view_is

pub returns-clause-opened : goal.returns-clause-opened
returns-clause-opened g c =
    let r = c.self.inside in
    let live = length r.index.buckets in
    let opened = open_count r.room r.open_segments r.places.items live r.starts _ c.self.view_is in
    let inside : r.open_segments < length r.starts = omega (arith, c.requires, c.self.invariant.0.rooms.1) in
    let segments : segments_between r.places.items (set r.starts r.open_segments c.len.result) (r.open_segments + 1) live ≡ [] ∷ segments_between r.places.items r.starts r.open_segments live =
    rw (c.len.ensures.count, add-one) (cut-mark r.places.items r.starts r.open_segments live inside (taken_fit c.self.invariant.0)) in
    (λ i. record { room = r.room; segments = segments i }) ∙ ap (λ (h : Stacked g.row.T.Denot). record h { segments = [] ∷ h.segments }) c.self.view_is
