-- What an object tells of its past: a list of what came, or nothing where it doesn't tell.
use Rattle.std.specs.Prelude.{◌≡◌, ◌++◌, List, Option, OnSome, option_map}

-- What is told once these came too.
abbrev pub told_after : {X : Type 0} → Option (List X) → List X → Option (List X)
told_after told more = option_map (λ had. had ++ more) told

-- What is told now is what was told before and then these, unless the object tells no more.
abbrev pub TellsMore : {X : Type 0} → Option (List X) → List X → Option (List X) → Type 0
TellsMore before more now = OnSome now (now ≡ told_after before more)

-- What is told of what is to come, before these came.
abbrev pub told_before : {X : Type 0} → List X → Option (List X) → Option (List X)
told_before first told = option_map (λ left. first ++ left) told
