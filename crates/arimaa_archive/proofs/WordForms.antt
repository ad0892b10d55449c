-- The words of a run, from their parts.
use Rattle.std.proofs.Common.{◌≡◌, ◌≤◌, ℕ, List, [], ◌∷◌, Option, None, Some, inr, refl, ◌∙◌, ap, arith}
use Rattle.std.specs.Prelude.{◌↔◌, IfSome, codes, slice_get}
use Rattle.std.specs.Fmt.{decimal}
use Rattle.arimaa_archive.specs.Words.{AskFor, HaveOption}

two : (ws : List (List ℕ)) (word : List ℕ) → HaveOption ws → Some word ≡ slice_get ws 1 → ws ≡ codes "--workers" ∷ word ∷ []
two (x ∷ y ∷ []) word o get = let first = o.first in cc
two [] word o get = let size = o.size in absurd (omega arith)
two (x ∷ []) word o get = let size = o.size in absurd (omega arith)
two (x ∷ y ∷ z ∷ ws) word o get = let size = o.size in absurd (omega arith)

-- what a number that is read from the second word asks for
pub counted : (ws : List (List ℕ)) (word : List ℕ) (r : Option ℕ) → HaveOption ws → Some word ≡ slice_get ws 1
    → ((n : ℕ) → (r ≡ Some n) ↔ ((1 ≤ n) × (n ≤ 16) × (word ≡ decimal n))) → IfSome r (AskFor ws)
counted ws word None o get is = tt
counted ws word (Some n) o get is =
    let at = (is n).0 refl in
    inr (two ws word o get ∙ ap (λ d. codes "--workers" ∷ d ∷ []) at.2, at.0, at.1)
