use Rattle.std.proofs.Common.{ℕ, ◌<◌, length, arith, subst, ◌∙◌}
use Rattle.std.specs.List.{slice_index}
use Rattle.arimaa_region.specs.Segments.{Stacked}
use Rattle.arimaa_region.proofs.Sound.{LiesAt, lies, open_count}
use Rattle.arimaa_region.proofs.stack.Stack.segment.Goals as goal

pub bounds-self-inside-number : goal.bounds-self-inside-number
bounds-self-inside-number g c =
    let r = c.self.inside in
    let opened = open_count r.room r.open_segments r.places.items (length r.index.buckets) r.starts _ c.self.view_is in
    omega (arith, c.requires, c.self.invariant.0.open_few)

pub end_of-end-requires-clause-open : goal.end_of-end-requires-clause-open
end_of-end-requires-clause-open g c =
    let r = c.self.inside in
    let opened = open_count r.room r.open_segments r.places.items (length r.index.buckets) r.starts _ c.self.view_is in
    omega (arith, c.requires)

pub overflow_sub-result : goal.overflow_sub-result
overflow_sub-result g c =
    let r = c.self.inside in
    let opened = open_count r.room r.open_segments r.places.items (length r.index.buckets) r.starts _ c.self.view_is in
    let below : c.args.number < r.open_segments = omega (arith, c.requires) in
    (lies c.args.number c.end_of-end.result below (λ h. c.end_of-end.ensures.top h ∙ c.len.ensures.count) c.end_of-end.ensures.lower c.self.invariant.0).rises

pub returns : goal.returns
returns g c =
    let r = c.self.inside in
    let m = c.args.number in
    let e = c.end_of-end.result in
    let opened = open_count r.room r.open_segments r.places.items (length r.index.buckets) r.starts _ c.self.view_is in
    let below : m < r.open_segments = omega (arith, c.requires) in
    let Lies : Stacked g.row.T.Denot → ℕ → Type 0 = λ h k. LiesAt h.segments k (slice_index r.starts m) e in
    let l = subst (λ (h : Stacked g.row.T.Denot). Lies h m) c.self.view_is (lies m e below (λ h. c.end_of-end.ensures.top h ∙ c.len.ensures.count) c.end_of-end.ensures.lower c.self.invariant.0) in
    record { first = l.begins; size = l.size; places = l.its_places; distinct = l.distinct }
