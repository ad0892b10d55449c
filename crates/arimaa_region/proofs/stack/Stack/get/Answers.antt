use Rattle.std.proofs.Common.{◌≡◌, length, ap, sym, ◌∙◌, arith, Some, subst}
use Rattle.std.specs.List.{slice_get}
use Rattle.arimaa_region.specs.Segments.{Stacked, live_of}
use Rattle.arimaa_region.proofs.Sound.{live_at, live_count, taken_fit}
use Rattle.arimaa_region.proofs.stack.Stack.get.Goals as goal

pub index-requires : goal.index-requires
index-requires g c =
    let r = c.self.inside in
    let count : length r.index.buckets ≡ length (live_of c.args.self.now.segments) = sym (live_count c.self.invariant.0) ∙ ap (λ (h : Stacked g.row.T.Denot). length (live_of h.segments)) c.self.view_is in
    omega (arith, c.requires, taken_fit c.self.invariant.0)

pub returns : goal.returns
returns g c =
    let r = c.self.inside in
    let count : length r.index.buckets ≡ length (live_of c.args.self.now.segments) = sym (live_count c.self.invariant.0) ∙ ap (λ (h : Stacked g.row.T.Denot). length (live_of h.segments)) c.self.view_is in
    let Has : Stacked g.row.T.Denot → Type 0 = λ h. slice_get (live_of h.segments) c.args.place ≡ Some c.index.result.now in
    subst Has c.self.view_is (live_at c.args.place c.index.result.now (omega (arith, c.requires)) c.index.ensures c.self.invariant.0)
