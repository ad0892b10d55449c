use Rattle.std.proofs.Common.{◌≡◌, ◌≤◌, ◌+◌, ◌-◌, ℕ, List, ap, arith, drop, length, length-take, slice_range, sym, take, ◌∙◌, drop-drop}
use Rattle.std.proofs.lemmas.List.{drop-take}
use Rattle.arimaa_record.proofs.buffer.Buffer.pass.Goals as goal

-- a range that begins later is the range without its first bytes
later_range : (xs : List ℕ) (a e n : ℕ) → a + n ≤ e → slice_range xs (a + n) e ≡ drop n (slice_range xs a e)
later_range xs a e n fits =
    let whole : n + (e - (a + n)) ≡ e - a = omega arith in
    ap (take (e - (a + n))) (sym (drop-drop n a xs))
    ∙ sym (drop-take n (e - (a + n)) (drop a xs))
    ∙ ap (λ k. drop n (take k (drop a xs))) whole

pub returns : goal.returns
returns c =
    let b = c.self.inside in
    let short : c.args.count ≤ length (slice_range b.bytes.items b.at b.end) = rw c.self.view_is c.requires in
    let fits : b.at + c.args.count ≤ b.end = omega (arith, c.self.invariant, length-take (b.end - b.at) (drop b.at b.bytes.items)) in
    rw (← c.self.view_is) (later_range b.bytes.items b.at b.end c.args.count fits)
