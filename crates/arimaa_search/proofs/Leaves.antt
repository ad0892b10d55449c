-- Positions that are won or not at once, and verdicts that lines have.
use Rattle.std.proofs.Common.{◌≡◌, ℕ, ◌<◌, ◌≤◌, List, [], ◌∷◌, length, Option, None, Some, Bool, true, false, not, refl, ◌∙◌, ap, arith}
use Rattle.std.specs.Prelude.{◌↔◌, IfSome, IsSomeAnd, IsTrue}
use Rattle.arimaa_board.specs.declared.piece.Color.{Color}
use Rattle.arimaa_board.specs.Board.{same_color}
use Rattle.arimaa_board.specs.declared.position.Position.{Position}
use Rattle.arimaa_model.specs.DecidedPositions.{decided}
use Rattle.arimaa_model.specs.Results.{next}
use Rattle.arimaa_model.specs.Wins.{is_nil, wins}
use Rattle.arimaa_model.proofs.Lemmas.WinsLaws.{wins-stuck, wins-end}
use Rattle.arimaa_line.specs.declared.bounds.Bounds.{Bounds}
use Rattle.arimaa_line.specs.declared.line.Line.{Line}
use Rattle.arimaa_line.specs.Lines.{IsLineOf}
use Rattle.arimaa_search.specs.Traces.{Tells}

module _ (a : Color) (barred : List Position) (p : Position) where
  -- the attacker, who is to move, wins no undecided position at once
  pub own_leaf : decided p ≡ None → same_color p.side a ≡ true → wins a barred 0 p ≡ false
  own_leaf undecided own =
      elim (next barred p) as (λ l. next barred p ≡ l → wins a barred 0 p ≡ false) [
        | [] ↦ λ is. wins-stuck a barred p 0 undecided is ∙ ap not own
        | q ∷ qs ↦ λ is. wins-end a barred p undecided (ap is_nil is)
      ] refl

  -- where the other side is to move, it wins it at once just where that side has no next position
  pub other_leaf : decided p ≡ None → same_color p.side a ≡ false → wins a barred 0 p ≡ is_nil (next barred p)
  other_leaf undecided other =
      elim (next barred p) as (λ l. next barred p ≡ l → wins a barred 0 p ≡ is_nil l) [
        | [] ↦ λ is. wins-stuck a barred p 0 undecided is ∙ ap not other
        | q ∷ qs ↦ λ is. wins-end a barred p undecided (ap is_nil is)
      ] refl

-- no position of a list is left just where it is empty
pub not-some : (some : Bool) (qs : List Position) → IsTrue some ↔ (0 < length qs) → not some ≡ is_nil qs
not-some true [] is = absurd (let none = is.0 refl in omega arith)
not-some true (q ∷ qs) is = refl
not-some false [] is = refl
not-some false (q ∷ qs) is = let there : false ≡ true = is.1 (omega arith) in cc

-- what the bounds of a line answer, the line tells
pub tells : (answer : Option Bool) (line : Line) (p : Position) (depth : ℕ) (k : Bounds) → IsLineOf line k → k.position ≡ p
    → (answer ≡ Some false) ↔ IsSomeAnd k.low (λ low. depth ≤ low) → (answer ≡ Some true) ↔ IsSomeAnd k.high (λ high. high ≤ depth)
    → IfSome answer (λ v. Tells line p depth v)
tells None line p depth k said here denied granted = tt
tells (Some true) line p depth k said here denied granted = record { bounds = k; said = said; position = here; verdict_given = granted.0 refl }
tells (Some false) line p depth k said here denied granted = record { bounds = k; said = said; position = here; verdict_given = denied.0 refl }

-- an answer on the position of the bounds is one on this position
pub answer_at : (answer : Option Bool) (a : Color) (barred : List Position) (depth : ℕ) (q p : Position) → q ≡ p → IfSome answer (λ v. v ≡ wins a barred depth q) → IfSome answer (λ v. v ≡ wins a barred depth p)
answer_at None a barred depth q p same is = tt
answer_at (Some v) a barred depth q p same is = is ∙ ap (wins a barred depth) same
