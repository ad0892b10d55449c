use Rattle.std.proofs.Common.{◌≡◌, ◌≢◌, ◌+◌, ◌-◌, ◌<◌, length, get_or, arith, sym, ◌∙◌}
use Rattle.std.proofs.lemmas.Bool.{false≢true}
use Rattle.std.proofs.lemmas.List.{get_or_read}
use Rattle.arimaa_region.specs.Hash.{bucket_of}
use Rattle.arimaa_region.proofs.Places.{IsNowhere, IsNowhere-from_link, IsNowhere-older}
use Rattle.arimaa_region.proofs.probe.find.Goals as goal

pub loop-link-init : goal.loop-link-init
loop-link-init g c =
    let x = c.args.index.now in
    record {
      within = c.newest-link.ensures.within;
      there = c.newest-link.ensures.there;
      after = IsNowhere-from_link g.T.Key.hash_of x.room x.buckets c.args.places.now c.args.value.now (length x.buckets) c.newest-link.result c.requires.indexed c.requires.fits (omega arith) (rw c.requires.bucket at c.newest-link.ensures);
    }

pub loop-link-preserved : goal.loop-link-preserved
loop-link-preserved g c =
    let x = c.args.index.now in
    let place = c.loop-link.link - 1 in
    let taken : place < length x.buckets = omega (arith, c.loop-link.invariant.within) in
    let next : place + 1 ≡ c.loop-link.link = omega arith in
    let bucket : get_or x.buckets place 0 ≡ bucket_of g.T.Key.hash_of x.room c.args.value.now = c.loop-link.invariant.there place next ∙ c.requires.bucket in
    let read : c.index-places-place.result ≡ get_or c.args.places.now place c.args.value.now = get_or_read c.args.places.now place _ (omega (arith, c.requires.fits)) c.index-places-place.is c.args.value.now in
    let other : get_or c.args.places.now place c.args.value.now ≢ c.args.value.now = λ e. false≢true (c.if-is_same.ensures ∙ (g.met.T.Key.decides c.args.value.now c.index-places-place.result).1 (sym (read ∙ e))) in
    let rest : IsNowhere c.args.places.now (place + 1) (length x.buckets) c.args.value.now = rw next c.loop-link.invariant.after in
    record {
      within = omega (arith, c.older-link.ensures.within);
      there = λ k e. c.older-link.ensures.there k e ∙ (bucket ∙ sym c.requires.bucket);
      after = IsNowhere-older g.T.Key.hash_of x.room x.buckets c.args.places.now c.args.value.now place c.older-link.result c.requires.indexed c.requires.fits taken (rw bucket at c.older-link.ensures) other rest;
    }
