use Rattle.std.proofs.Common.{◌≤◌, length, ap, sym, ◌∙◌, subst}
use Rattle.arimaa_region.specs.Segments.{Stacked, live_of}
use Rattle.arimaa_region.proofs.Sound.{live_count}
use Rattle.arimaa_region.proofs.stack.Stack.live.Goals as goal

pub returns-clause-count : goal.returns-clause-count
returns-clause-count g c =
    c.len.ensures.count ∙ (sym (live_count c.self.invariant.0) ∙ ap (λ (h : Stacked g.row.T.Denot). length (live_of h.segments)) c.self.view_is)

pub returns-clause-within : goal.returns-clause-within
returns-clause-within g c =
    let Within : Stacked g.row.T.Denot → Type 0 = λ h. length (live_of h.segments) ≤ h.room in
    subst Within c.self.view_is (rw (live_count c.self.invariant.0) c.self.invariant.0.fits)
