-- What contracts see of the workers of a prover.
use Rattle.std.specs.Prelude.{◌≡◌, ℕ, ◌+◌, List, All, Option, None, Some}
use Rattle.crossbeam_utils.specs.declared.cache_padded.CachePadded.{CachePadded}
use Rattle.crossbeam_utils.specs.Padded.{padded_value}
use Rattle.arimaa_pool.specs.Terms.{Terms}

-- the terms on which the workers ask, and how many there are
pub record Hands : Type 0 where
  pub terms : Terms
  pub count : ℕ

-- each of these workers asks on these terms
abbrev pub AskOn : Terms → List (CachePadded Terms) → Type 0
AskOn t askers = All (λ a. padded_value a ≡ t) askers

-- one of the workers was taken out, if there was one
abbrev pub IsTaken : Hands → Hands → Option (CachePadded Terms) → Type 0
IsTaken old new None = (old.count ≡ 0) × (new ≡ old)
IsTaken old new (Some a) =
    (padded_value a ≡ old.terms) × (new.terms ≡ old.terms) × (new.count + 1 ≡ old.count)
