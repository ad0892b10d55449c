-- What a pass keeps, and where it made steps.
use Rattle.std.specs.Prelude.{◌≡◌, ℕ, ◌<◌, ◌≤◌, Bool, true, false, List, ◌∷◌, drop, IsSomeAnd}
use Rattle.std.specs.Prelude.{Result, Ok, Err}
use Rattle.arimaa_board.specs.declared.piece.Color.{Color}
use Rattle.arimaa_board.specs.declared.position.Position.{Position}
use Rattle.arimaa_model.specs.Members.{Stands}
use Rattle.arimaa_model.specs.Results.{next}
use Rattle.arimaa_forced.specs.Search.{is_decisive, looked_at}
use Rattle.arimaa_line.specs.declared.bounds.Bounds.{Bounds}
use Rattle.arimaa_line.specs.declared.line.Line.{Line}
use Rattle.arimaa_line.specs.Lines.{IsLineOf}
use Rattle.arimaa_line.specs.Index.{place_of}
use Rattle.arimaa_search.specs.declared.stop.Stop.{Stop}
use Rattle.arimaa_search.specs.declared.stop.Stop.TheVariants as stop

-- the bounds give this verdict at this depth
abbrev pub Give : Bounds → ℕ → Bool → Type 0
Give k depth true = IsSomeAnd k.high (λ high. high ≤ depth)
Give k depth false = IsSomeAnd k.low (λ low. depth ≤ low)

-- the line names the position and gives the verdict on it
pub record Tells (line : Line) (p : Position) (depth : ℕ) (verdict : Bool) : Type 0 where
  pub bounds : Bounds
  pub said : IsLineOf line bounds
  pub position : bounds.position ≡ p
  pub verdict_given : Give bounds depth verdict

-- the line gives the verdict that is answered, if one is; no answer says that the region is too small
abbrev pub IsToldBy : Line → Position → ℕ → Result Bool Stop → Type 0
IsToldBy line p depth (Ok v) = Tells line p depth v
IsToldBy line p depth (Err stop.Spent) = Unit {0}
IsToldBy line p depth (Err stop.Crowded) = ⊥

-- the question was opened, and what is left of the budget fell, unless all of it was spent before
abbrev pub IsOpened : ℕ → ℕ → Result Bool Stop → Type 0
IsOpened left after (Ok v) = after < left
IsOpened left after (Err stop.Spent) = Unit {0}
IsOpened left after (Err stop.Crowded) = after < left

-- of that many lines, the pass made steps at the one of the position
abbrev pub Stepped : ℕ → (ℕ → ℕ) → (ℕ → ℕ) → Position → Type 0
Stepped lines old new q = old (place_of q lines) < new (place_of q lines)

-- it made steps at the line of each next position of p, up to and including the first that is
-- decisive at this depth
abbrev pub SteppedThrough : Color → List Position → ℕ → ℕ → Position → (ℕ → ℕ) → (ℕ → ℕ) → Type 0
SteppedThrough a barred lines depth p old new = (q : Position)
    → Stands (looked_at a barred depth p) q → Stepped lines old new q

-- the look through the next positions of p goes past the first of them: it is not decisive at this
-- depth
abbrev pub GoesPast : Color → List Position → ℕ → Position → Position → Type 0
GoesPast a barred depth p q = (next barred p ≡ q ∷ drop 1 (next barred p))
    × (is_decisive a barred depth p q ≡ false)
