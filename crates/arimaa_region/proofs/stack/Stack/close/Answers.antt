use Rattle.std.proofs.Common.{◌≡◌, ℕ, ◌-◌, suc, length, get_or, arith, subst, ap, sym, ◌∙◌}
use Rattle.std.proofs.lemmas.List.{length-take-le}
use Rattle.arimaa_region.specs.Index.{Indexed}
use Rattle.arimaa_region.specs.Layout.{segments_between, IsSound}
use Rattle.arimaa_region.specs.Segments.{Stacked, below_top}
use Rattle.arimaa_region.proofs.Cutting.{cut-shorter}
use Rattle.arimaa_region.proofs.Sound.{IsSound-release, open_count}
use Rattle.arimaa_region.proofs.stack.Stack.close.Goals as goal

pub invariant_of-self : goal.invariant_of-self
invariant_of-self g c =
    let r = c.self.inside in
    let opened = open_count r.room r.open_segments r.places.items (length r.index.buckets) r.starts _ c.self.view_is in
    let one_more : r.open_segments ≡ suc (r.open_segments - 1) = omega (arith, c.requires) in
    let Sound : ℕ → Type 0 = λ n. IsSound g.T.Key.hash_of r.room n r.places.items r.index r.starts in
    (rw (c.truncate.ensures, c.truncate-2.ensures.items) (IsSound-release (subst Sound one_more c.self.invariant.0)), omega (arith, c.self.invariant.1, c.truncate-2.ensures.capacity))

pub returns : goal.returns
returns g c =
    let r = c.self.inside in
    let live = length r.index.buckets in
    let ps = r.places.items in
    let opened = open_count r.room r.open_segments ps live r.starts _ c.self.view_is in
    let one_more : r.open_segments ≡ suc (r.open_segments - 1) = omega (arith, c.requires) in
    let Sound : ℕ → Type 0 = λ n. IsSound g.T.Key.hash_of r.room n ps r.index r.starts in
    let sound : Sound (suc (r.open_segments - 1)) = subst Sound one_more c.self.invariant.0 in
    let first = get_or r.starts (r.open_segments - 1) 0 in
    let count : length c.truncate.new.self.buckets ≡ first =
    ap (λ (x : Indexed). length x.buckets) c.truncate.ensures ∙ length-take-le first r.index.buckets sound.rising.0 in
    let lower : segments_between c.truncate-2.new.self.items r.starts (r.open_segments - 1) (length c.truncate.new.self.buckets) ≡ below_top (segments_between ps r.starts r.open_segments live) =
    rw (c.truncate-2.ensures.items, count) (cut-shorter ps r.starts (r.open_segments - 1) first sound.rising.1) ∙ sym (ap (λ (n : ℕ). below_top (segments_between ps r.starts n live)) one_more) in
    (λ i. record { room = r.room; segments = lower i }) ∙ ap (λ (h : Stacked g.row.T.Denot). record h { segments = below_top h.segments }) c.self.view_is
