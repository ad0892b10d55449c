-- What is told of a source or a sink, over several calls.
use Rattle.std.proofs.Common.{◌≡◌, ◌∙◌, ◌-◌, ◌+◌, ℕ, List, ◌++◌, Option, None, Some, ap, append_assoc, arith, drop, length, refl, sym, take}
use Rattle.std.proofs.lemmas.Slice.{between_to_end}
use Rattle.std.proofs.Math.Seq.{take-add}
use Rattle.std.specs.Io.KnownBytes.{append_known, prepend_known}

prepend_twice : (first second : List ℕ) (told : Option (List ℕ)) → prepend_known first (prepend_known second told) ≡ prepend_known (first ++ second) told
prepend_twice first second None = refl
prepend_twice first second (Some left) = ap Some (sym (append_assoc first second left))

append_twice : (told : Option (List ℕ)) (first second : List ℕ) → append_known (append_known told first) second ≡ append_known told (first ++ second)
append_twice None first second = refl
append_twice (Some had) first second = ap Some (append_assoc had first second)

-- a source that gave some bytes and then some more gave both
pub gave_both : (old mid new : Option (List ℕ)) (first second : List ℕ) → old ≡ prepend_known first mid → mid ≡ prepend_known second new → old ≡ prepend_known (first ++ second) new
gave_both old mid new first second before step = before ∙ ap (prepend_known first) step ∙ prepend_twice first second new

-- a sink that took the first bytes of a text, and then the first of those after them, took as many of the text
pub took_more : (old mid new : Option (List ℕ)) (text : List ℕ) (done more : ℕ) → mid ≡ append_known old (take done text) → new ≡ append_known mid (take more (take (length text - done) (drop done text))) → new ≡ append_known old (take (done + more) text)
took_more old mid new text done more before step =
    let rest = between_to_end text done (length text) (omega arith) in
    step ∙ ap (λ bytes. append_known mid (take more bytes)) rest ∙ ap (λ told. append_known told (take more (drop done text))) before ∙ append_twice old _ _ ∙ ap (append_known old) (sym (take-add done more text))
