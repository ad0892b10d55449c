use Rattle.std.proofs.Common.{◌≡◌, ◌<◌, ◌==◌, true, false, List, [], ◌∷◌, length, sym, ◌∙◌, refl, arith, true≢false, eqb-true}
use Rattle.std.proofs.lemmas.Bool.{OnTrue_at}
use Rattle.arimaa_board.specs.declared.position.Position.{Position}
use Rattle.arimaa_model.specs.Results.{next}
use Rattle.arimaa_search.proofs.AtEase.{none_barred}
use Rattle.arimaa_search.proofs.at_ease.has_next.Goals.{then-is_empty, else-is_empty}
use Rattle.arimaa_search.proofs.at_ease.has_next.Goals as goal

pub returns-then-has_step : goal.returns-then-has_step
returns-then-has_step c = (λ _. some, λ _. c.if-has_step.true) where
  nothing : (l : List Position) → (length l == 0) ≡ true → l ≡ []
  nothing [] h = refl
  nothing (x ∷ xs) h = let none : length (x ∷ xs) ≡ 0 = eqb-true (length (x ∷ xs)) 0 h in absurd (omega arith)

  some : 0 < length (next c.args.barred.now c.args.p.now)
  some =
      elim c.if-is_empty.branch [
        | then-is_empty w ↦
            let empty : c.args.barred.now ≡ [] = sym c.as_slice.ensures ∙ nothing c.as_slice.result.now (sym c.is_empty.ensures ∙ w.if-is_empty.true) in
            let yes : w.has_step.result ≡ true = sym w.value-is ∙ c.if-has_step.true in
            none_barred c.args.barred.now c.args.p.now empty (OnTrue_at yes w.has_step.ensures)
        | else-is_empty w ↦ let wrong : true ≡ false = cc in absurd (true≢false wrong)
      ]
