-- What was told over several calls.
use Rattle.std.proofs.Common.{◌≡◌, ◌∙◌, ◌++◌, List, [], Option, None, Some, ap, append_assoc, append-nil, refl, sym}
use Rattle.arimaa_outside.specs.ToldLines.{told_after}

-- no call
pub told_nothing : {X : Type 0} (told : Option (List X)) → told ≡ told_after told []
told_nothing None = refl
told_nothing (Some had) = ap Some (sym (append-nil had))

pub told_twice : {X : Type 0} (told : Option (List X)) (first second : List X) → told_after (told_after told first) second ≡ told_after told (first ++ second)
told_twice None first second = refl
told_twice (Some had) first second = ap Some (append_assoc had first second)

-- what was told after two calls
pub told_both : {X : Type 0} (old mid new : Option (List X)) (first second : List X) → mid ≡ told_after old first → new ≡ told_after mid second → new ≡ told_after old (first ++ second)
told_both old mid new first second before step = step ∙ ap (λ told. told_after told second) before ∙ told_twice old first second
