use Rattle.std.proofs.Common.{◌≡◌, ℕ, ◌+◌, ◌-◌, ◌<◌, suc, [], ◌∷◌, ◌++◌, length, get_or, ap, sym, ◌∙◌, arith, subst}
use Rattle.std.proofs.lemmas.List.{length_push}
use Rattle.arimaa_region.specs.declared.placement.Placed.TheVariants.{New, There, Full}
use Rattle.arimaa_region.specs.Layout.{IsSound}
use Rattle.arimaa_region.specs.Index.{Indexed}
use Rattle.arimaa_region.specs.Segments.{Stacked}
use Rattle.arimaa_region.specs.Placing.{IsPlaced}
use Rattle.arimaa_region.proofs.Places.{IsNowhere}
use Rattle.arimaa_region.proofs.Sound.{held, IsSound-push, open_count, taken_fit}
use Rattle.arimaa_region.proofs.Placing.{absent_from_nowhere, answer_there, answer_full, answer_new}
use Rattle.arimaa_region.proofs.stack.Stack.place.Goals as goal

pub returns-in-Some : goal.returns-in-Some
returns-in-Some g c =
    let r = c.self.inside in
    let live = length r.index.buckets in
    let p = c.args.value in
    let n = c.in-Some.place in
    let opened = open_count r.room r.open_segments r.places.items live r.starts _ c.self.view_is in
    let one_more : r.open_segments ≡ suc (r.open_segments - 1) = omega (arith, c.requires) in
    let Sound : ℕ → Type 0 = λ k. IsSound g.T.Key.hash_of r.room k r.places.items r.index r.starts in
    let At : ℕ → Type 0 = λ k. IsPlaced g.T.Key.same (held r.room k r.places.items live r.starts) p (There n) (held r.room k r.places.items live r.starts) in
    let Answer : Stacked g.row.T.Denot → Type 0 = λ h. IsPlaced g.T.Key.same h p (There n) h in
    let found = c.in-Some.ensures.found in
    let at : get_or r.places.items n p ≡ p = rw (← c.as_slice.ensures.value) found.2 in
    let a : IsPlaced g.T.Key.same c.args.self.now p (There n) c.args.self.now = subst Answer c.self.view_is (subst At (sym one_more) (answer_there g.T.Key.same g.met.T.Key.decides p n found.0 found.1 at (subst Sound one_more c.self.invariant.0))) in
    a

pub returns-then-place-self : goal.returns-then-place-self
returns-then-place-self g c =
    let r = c.self.inside in
    let live = length r.index.buckets in
    let p = c.args.value in
    let opened = open_count r.room r.open_segments r.places.items live r.starts _ c.self.view_is in
    let one_more : r.open_segments ≡ suc (r.open_segments - 1) = omega (arith, c.requires) in
    let Sound : ℕ → Type 0 = λ k. IsSound g.T.Key.hash_of r.room k r.places.items r.index r.starts in
    let At : ℕ → Type 0 = λ k. IsPlaced g.T.Key.same (held r.room k r.places.items live r.starts) p Full (held r.room k r.places.items live r.starts) in
    let Answer : Stacked g.row.T.Denot → Type 0 = λ h. IsPlaced g.T.Key.same h p Full h in
    let nowhere : IsNowhere r.places.items (get_or r.starts (r.open_segments - 1) 0) live p = rw (← c.as_slice.ensures.value) c.in_default.ensures.absent in
    let none_left : live ≡ r.room = sym c.len-place.ensures.count ∙ c.if-place-self.true in
    let a : IsPlaced g.T.Key.same c.args.self.now p Full c.args.self.now = subst Answer c.self.view_is (subst At (sym one_more) (answer_full g.T.Key.same g.met.T.Key.decides p nowhere none_left (subst Sound one_more c.self.invariant.0))) in
    a

pub invariant_of-self : goal.invariant_of-self
invariant_of-self g c =
    let r = c.self.inside in
    let live = length r.index.buckets in
    let p = c.args.value in
    let first = get_or r.starts (r.open_segments - 1) 0 in
    let opened = open_count r.room r.open_segments r.places.items live r.starts _ c.self.view_is in
    let one_more : r.open_segments ≡ suc (r.open_segments - 1) = omega (arith, c.requires) in
    let Sound : ℕ → Type 0 = λ k. IsSound g.T.Key.hash_of r.room k r.places.items r.index r.starts in
    let nowhere : IsNowhere r.places.items first live p = rw (← c.as_slice.ensures.value) c.in_default.ensures.absent in
    let free : live < r.room = omega (arith, c.len-place.ensures.count, c.self.invariant.0.fits, c.if-place-self.false) in
    let absent = absent_from_nowhere r.places.items first live p (taken_fit c.self.invariant.0) nowhere in
    let After : ℕ → Type 0 = λ k. IsSound g.T.Key.hash_of r.room k c.push_reserved.new.self.items c.push.new.self r.starts in (
      subst After (sym one_more) (rw (c.push_reserved.ensures.items, c.push.ensures, c.bucket-bucket.ensures.value, c.buckets_for.ensures.value, c.hash_number.ensures) (IsSound-push p free absent (subst Sound one_more c.self.invariant.0))),
      omega (arith, c.self.invariant.1, c.push_reserved.ensures.capacity),
    )

pub returns : goal.returns
returns g c =
    let r = c.self.inside in
    let live = length r.index.buckets in
    let p = c.args.value in
    let first = get_or r.starts (r.open_segments - 1) 0 in
    let opened = open_count r.room r.open_segments r.places.items live r.starts _ c.self.view_is in
    let one_more : r.open_segments ≡ suc (r.open_segments - 1) = omega (arith, c.requires) in
    let Sound : ℕ → Type 0 = λ k. IsSound g.T.Key.hash_of r.room k r.places.items r.index r.starts in
    let nowhere : IsNowhere r.places.items first live p = rw (← c.as_slice.ensures.value) c.in_default.ensures.absent in
    let free : live < r.room = omega (arith, c.len-place.ensures.count, c.self.invariant.0.fits, c.if-place-self.false) in
    let At : ℕ → Type 0 = λ k. IsPlaced g.T.Key.same (held r.room k r.places.items live r.starts) p (New live) (held r.room k (r.places.items ++ p ∷ []) (live + 1) r.starts) in
    let longer : length c.push.new.self.buckets ≡ live + 1 = ap (λ (x : Indexed). length x.buckets) c.push.ensures ∙ length_push r.index.buckets c.bucket-bucket.result in
    let Answer : Stacked g.row.T.Denot → Type 0 = λ h. IsPlaced g.T.Key.same h p (New c.len-place.result) (held r.room r.open_segments c.push_reserved.new.self.items (length c.push.new.self.buckets) r.starts) in
    let a = subst Answer c.self.view_is (rw (c.push_reserved.ensures.items, longer, c.len-place.ensures.count) (subst At (sym one_more) (answer_new g.T.Key.same g.met.T.Key.decides p nowhere free (subst Sound one_more c.self.invariant.0)))) in
    a
